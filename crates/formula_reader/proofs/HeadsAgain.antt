-- The tokens of a coalition and of a bound that the rules derive are read.
use Rattle.std.proofs.Common.{◌≡◌, ◌∙◌, ℕ, List, [], ◌∷◌, ◌++◌, Bool, true, false, cond, Option, Some, None, Ok, Err}
use Rattle.std.proofs.Common.{refl, ap, sym, subst, arith}
use Rattle.std.specs.Prelude.{codes, bytes_eq, ◌==◌, ◌&&◌}
use Rattle.std.specs.List.{All}
use Rattle.std.proofs.lemmas.Bool.Decides.{nat_tests}
use Rattle.std.proofs.lemmas.List.Elements.{All-head, All-tail}
use Rattle.fractions.specs.Fraction.{Fraction}
use Rattle.fractions.specs.Number.{number_said}
use Rattle.fractions.proofs.Said.{number-again}
use Rattle.formula_tokens.specs.declared.fault.FormulaCause.TheVariants.{Unexpected, ThresholdOutOfRange}
use Rattle.formula_reader.specs.declared.formula.Bound.{Bound}
use Rattle.formula_reader.specs.declared.formula.Bound.TheVariants.{AtLeast, Above, AtMost, Below, AskMax, AskMin}
use Rattle.formula_tokens.specs.Fault.{fault_at, ◌>>=◌}
use Rattle.formula_tokens.specs.Tokens.{Tokens, Then, Token, begins_word}
use Rattle.formula_reader.specs.Grammar.{names, further_names, with_name, some_names}
use Rattle.formula_tokens.specs.Reading.{is_word, fails, follows, where_next}
use Rattle.formula_reader.specs.Grammar.{coalition, threshold_of, threshold, compared, comparison, asked, bound}
use Rattle.formula_reader.specs.Grammar.{inner_bound}
use Rattle.formula_reader.specs.Rules.{with_commas, IsWord, IsCoalition, IsThreshold, IsComparison, IsBound, Compares}
use Rattle.formula_tokens.proofs.Spans.{Spans, no_sign}
use Rattle.formula_reader.proofs.Orders.{not_above}

-- 1. Coalitions.

pub not_a_sign : (sign : ℕ) (others : List ℕ) (word : List ℕ) → begins_word sign ≡ false → is_word word ≡ true
    → bytes_eq word (sign ∷ others) ≡ false
not_a_sign sign others [] differs e = cc e
not_a_sign sign others (b ∷ bytes) differs e = by_test (b == sign) refl
  where
    by_test : (t : Bool) → (b == sign) ≡ t → bytes_eq (b ∷ bytes) (sign ∷ others) ≡ false
    by_test false f = ap (λ t. t && bytes_eq bytes others) f
    by_test true t =
        let same : b ≡ sign = grind (arith, nat_tests) in
        let yes : begins_word sign ≡ true = ap begins_word (sym same) ∙ e in
        cc (yes, differs)

word_read : (place : ℕ) (word : List ℕ) (after : Tokens) → is_word word ≡ true
    → names (Then place word after) ≡ with_name word (further_names after)
word_read place word after w =
    ap (λ b. cond b (with_name word (further_names after)) (Err (fault_at place Unexpected))) w

names_again : (name : List ℕ) (others : List (List ℕ)) (ts rest : Tokens) → All IsWord (name ∷ others)
    → Spans ts (with_commas (name ∷ others) ++ codes ">>" ∷ []) rest → names ts ≡ Ok (name ∷ others, rest)
names_again name [] ts rest words s =
    let end = s.3 in
    ap names s.2 ∙ word_read s.0 name s.1 (All-head IsWord name [] words)
    ∙ ap (λ t. with_name name (further_names t)) end.2
    ∙ ap (λ (t : Tokens). Ok (name ∷ [], t)) end.3
names_again name (other ∷ more) ts rest words s =
    let comma = s.3 in
    ap names s.2 ∙ word_read s.0 name s.1 (All-head IsWord name (other ∷ more) words)
    ∙ ap (λ t. with_name name (further_names t)) comma.2
    ∙ ap (with_name name) (names_again other more comma.1 rest (All-tail IsWord name (other ∷ more) words) comma.3)

pub coalition_again : (us : List (List ℕ)) (team : Option (List (List ℕ))) → IsCoalition us team → (ts rest : Tokens)
    → Spans ts us rest → follows (codes "<<") rest ≡ None → coalition ts ≡ Ok (team, rest)
coalition_again us None d ts rest s none =
    let P : List (List ℕ) → Type 0 = λ vs. Spans ts vs rest in
    let same : ts ≡ rest = subst P d s in
    ap coalition same ∙ ap (λ o. where_next o (Ok (None, rest)) (λ inside.
    where_next (follows (codes ">>") inside) (some_names (names inside)) (λ after. Ok (Some [], after)))) none
coalition_again us (Some []) d ts rest s none =
    let P : List (List ℕ) → Type 0 = λ vs. Spans ts vs rest in
    let t : Spans ts (codes "<<" ∷ codes ">>" ∷ []) rest = subst P d.0 s in
    let end = t.3 in
    ap coalition t.2
    ∙ ap (λ inside. where_next (follows (codes ">>") inside) (some_names (names inside)) (λ after. Ok (Some [], after)))
    end.2 ∙ ap (λ (r : Tokens). Ok (Some [], r)) end.3
coalition_again us (Some (name ∷ others)) d ts rest s none =
    let P : List (List ℕ) → Type 0 = λ vs. Spans ts vs rest in
    let t : Spans ts (codes "<<" ∷ (with_commas (name ∷ others) ++ codes ">>" ∷ [])) rest = subst P d.0 s in
    ap coalition t.2 ∙ ap (λ o. where_next o (some_names (names t.1)) (λ after. Ok (Some [], after)))
    (no_end others t.1 t.3) ∙ ap some_names (names_again name others t.1 rest d.1 t.3)
  where
    first : IsWord name
    first = All-head IsWord name others d.1

    no_end : (more : List (List ℕ)) (inside : Tokens) → Spans inside (with_commas (name ∷ more) ++ codes ">>" ∷ []) rest
        → follows (codes ">>") inside ≡ None
    no_end [] inside s =
        ap (follows (codes ">>")) s.2 ∙ ap (λ b. cond b (Some s.1) None) (not_a_sign 62 (62 ∷ []) name refl first)
    no_end (other ∷ more) inside s =
        ap (follows (codes ">>")) s.2 ∙ ap (λ b. cond b (Some s.1) None) (not_a_sign 62 (62 ∷ []) name refl first)

-- 2. Bounds.

threshold_again : (place : ℕ) (spelling : List ℕ) (after : Tokens) (p : Fraction) → IsThreshold spelling p
    → threshold (record { place = place; spelling = spelling; after = after }) ≡ Ok p
threshold_again place spelling after p d =
    let token : Token = record { place = place; spelling = spelling; after = after } in
    ap (λ b. cond b (threshold_of token (number_said spelling)) (fails token Unexpected)) d.number
    ∙ ap (threshold_of token) (number-again spelling p d.value)
    ∙ ap (λ b. cond b (fails token ThresholdOutOfRange) (Ok p)) (not_above p.num p.den d.small)

compared_again : (make : Fraction → Bound) (us : List (List ℕ)) (p : Fraction) (token : List ℕ) (ts rest : Tokens)
    → IsThreshold token p → Spans ts (token ∷ []) rest → compared make ts ≡ Ok (make p, rest)
compared_again make us p token ts rest d s =
    ap (compared make) s.2 ∙ ap (λ r. r >>= λ value. Ok (make value, s.1)) (threshold_again s.0 token s.1 p d)
    ∙ ap (λ (t : Tokens). Ok (make p, t)) s.3

-- `P`, and a comparison that is read behind it
record ComparisonRead (b : Bound) (ts rest : Tokens) : Type 0 where
  pub place : ℕ
  pub after : Tokens
  pub at : ts ≡ Then place (codes "P") after
  pub reads : comparison after ≡ Ok (b, rest)

-- behind `P` and a sign
comparison_again : (make : Fraction → Bound) (sign : List ℕ)
    → ((place : ℕ) (after : Tokens) → comparison (Then place sign after) ≡ compared make after) → (us : List (List ℕ))
    (p : Fraction) → IsComparison sign us p → (ts rest : Tokens) → Spans ts us rest → ComparisonRead (make p) ts rest
comparison_again make sign leads us p d ts rest s =
    let P : List (List ℕ) → Type 0 = λ vs. Spans ts vs rest in
    let t : Spans ts (codes "P" ∷ sign ∷ d.0 ∷ []) rest = subst P d.1 s in
    let more = t.3 in
    record {
      place = t.0;
      after = t.1;
      at = t.2;
      reads = ap comparison more.2 ∙ leads more.0 more.1 ∙ compared_again make us p d.0 more.1 rest d.2 more.3;
    }

at_least_again : (us : List (List ℕ)) (p : Fraction) → IsComparison (codes ">=") us p → (ts rest : Tokens)
    → Spans ts us rest → ComparisonRead (AtLeast p) ts rest
at_least_again us p d ts rest s = comparison_again (λ q. AtLeast q) (codes ">=") (λ place after. refl) us p d ts rest s

above_again : (us : List (List ℕ)) (p : Fraction) → IsComparison (codes ">") us p → (ts rest : Tokens)
    → Spans ts us rest → ComparisonRead (Above p) ts rest
above_again us p d ts rest s = comparison_again (λ q. Above q) (codes ">") (λ place after. refl) us p d ts rest s

at_most_again : (us : List (List ℕ)) (p : Fraction) → IsComparison (codes "<=") us p → (ts rest : Tokens)
    → Spans ts us rest → ComparisonRead (AtMost p) ts rest
at_most_again us p d ts rest s = comparison_again (λ q. AtMost q) (codes "<=") (λ place after. refl) us p d ts rest s

below_again : (us : List (List ℕ)) (p : Fraction) → IsComparison (codes "<") us p → (ts rest : Tokens)
    → Spans ts us rest → ComparisonRead (Below p) ts rest
below_again us p d ts rest s = comparison_again (λ q. Below q) (codes "<") (λ place after. refl) us p d ts rest s

compares_again : (b : Bound) (ts rest : Tokens) → ComparisonRead b ts rest → bound ts ≡ Ok (b, rest)
compares_again b ts rest r = ap bound r.at ∙ r.reads

pub bound_again : (us : List (List ℕ)) (b : Bound) → IsBound us b → (ts rest : Tokens) → Spans ts us rest
    → bound ts ≡ Ok (b, rest)
bound_again us (AtLeast p) d ts rest s = compares_again (AtLeast p) ts rest (at_least_again us p d ts rest s)
bound_again us (Above p) d ts rest s = compares_again (Above p) ts rest (above_again us p d ts rest s)
bound_again us (AtMost p) d ts rest s = compares_again (AtMost p) ts rest (at_most_again us p d ts rest s)
bound_again us (Below p) d ts rest s = compares_again (Below p) ts rest (below_again us p d ts rest s)
bound_again us AskMax d ts rest s =
    let P : List (List ℕ) → Type 0 = λ vs. Spans ts vs rest in
    let t : Spans ts (codes "Pmax" ∷ codes "=?" ∷ []) rest = subst P d s in
    let more = t.3 in
    ap bound t.2 ∙ ap (asked AskMax) more.2 ∙ ap (λ (r : Tokens). Ok (AskMax, r)) more.3
bound_again us AskMin d ts rest s =
    let P : List (List ℕ) → Type 0 = λ vs. Spans ts vs rest in
    let t : Spans ts (codes "Pmin" ∷ codes "=?" ∷ []) rest = subst P d s in
    let more = t.3 in
    ap bound t.2 ∙ ap (asked AskMin) more.2 ∙ ap (λ (r : Tokens). Ok (AskMin, r)) more.3

inside_again : (b : Bound) (ts rest : Tokens) → ComparisonRead b ts rest → inner_bound ts ≡ Ok (b, rest)
inside_again b ts rest r = ap inner_bound r.at ∙ r.reads

pub inner_bound_again : (us : List (List ℕ)) (b : Bound) → IsBound us b → Compares b → (ts rest : Tokens)
    → Spans ts us rest → inner_bound ts ≡ Ok (b, rest)
inner_bound_again us (AtLeast p) d c ts rest s = inside_again (AtLeast p) ts rest (at_least_again us p d ts rest s)
inner_bound_again us (Above p) d c ts rest s = inside_again (Above p) ts rest (above_again us p d ts rest s)
inner_bound_again us (AtMost p) d c ts rest s = inside_again (AtMost p) ts rest (at_most_again us p d ts rest s)
inner_bound_again us (Below p) d c ts rest s = inside_again (Below p) ts rest (below_again us p d ts rest s)
inner_bound_again us AskMax d c ts rest s = absurd c
inner_bound_again us AskMin d c ts rest s = absurd c

no_team : (us vs : List (List ℕ)) (first : List ℕ) (others : List (List ℕ)) → bytes_eq first (codes "<<") ≡ false
    → us ≡ first ∷ others → (ts rest : Tokens) → Spans ts (us ++ vs) rest → follows (codes "<<") ts ≡ None
no_team us vs first others other e ts rest s =
    let P : List (List ℕ) → Type 0 = λ ws. Spans ts (ws ++ vs) rest in
    no_sign (codes "<<") first (others ++ vs) ts rest other (subst P e s)

-- a bound does not begin a coalition
pub no_coalition : (us vs : List (List ℕ)) (b : Bound) → IsBound us b → (ts rest : Tokens) → Spans ts (us ++ vs) rest
    → follows (codes "<<") ts ≡ None
no_coalition us vs AskMax d ts rest s = no_team us vs (codes "Pmax") _ refl d ts rest s
no_coalition us vs AskMin d ts rest s = no_team us vs (codes "Pmin") _ refl d ts rest s
no_coalition us vs b d ts rest s = no_team us vs (codes "P") _ refl d.1 ts rest s
