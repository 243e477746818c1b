-- The tokens of a printed formula.
use Rattle.std.proofs.Common.{◌≡◌, ◌∙◌, ◌+◌, ◌≤◌, ℕ, List, [], ◌∷◌, ◌++◌, length, Bool, true, false, cond, Option, Some}
use Rattle.std.proofs.Common.{None, refl, ap, sym, subst, arith, nat_lt, append_assoc}
use Rattle.std.specs.Prelude.{codes, decimal}
use Rattle.std.proofs.lemmas.List.{length-append}
use Rattle.fractions.specs.Fraction.{Fraction}
use Rattle.text_lines.specs.Text.{is_digit}
use Rattle.formula_tokens.specs.declared.front.Front.TheVariants.{Spelling}
use Rattle.formula_reader.specs.declared.formula.Bound.{Bound}
use Rattle.formula_reader.specs.declared.formula.Bound.TheVariants.{AtLeast, Above, AtMost, Below, AskMax, AskMin}
use Rattle.formula_reader.specs.declared.formula.PathKind.{PathKind}
use Rattle.formula_reader.specs.declared.formula.PathKind.TheVariants.{Until, Within, Next, Always}
use Rattle.formula_reader.specs.Formula.{State, True, False, Label, Not, And, Or, Implies, Inner}
use Rattle.formula_reader.specs.Limits.{most_steps}
use Rattle.formula_reader.specs.Rules.{between, with_commas}
use Rattle.rpatl_syntax.specs.Spellable.{HasWords, IsShare, HasShare, HasKind, HasParts}
use Rattle.rpatl_syntax.specs.Spelling.{strength_of, in_place, state_spelling, until_spelling, kind_spelling}
use Rattle.rpatl_syntax.specs.Spelling.{spelling_with, names_spelling, coalition_spelling, fraction_spelling}
use Rattle.rpatl_syntax.specs.Spelling.{bound_spelling}
use Rattle.formula_tokens.specs.TokenRules.{IsName}
use Rattle.formula_tokens.specs.Tokens.{tokens_from, name_from}
use Rattle.formula_tokens.proofs.Fronts.{name_reads}
use Rattle.rpatl_syntax.proofs.Laying.{Lays, Ends, spaced, lays_append, lays_token, lays_blank, lays_spaced, lays_open}
use Rattle.rpatl_syntax.proofs.Laying.{lays_close, lays_not, lays_bracket, lays_names, lays_number, lays_above}
use Rattle.rpatl_syntax.proofs.Laying.{lays_below}
use Rattle.rpatl_syntax.proofs.Numerals.{HasFewDigits, fraction_text, share_digits, steps_text}
use Rattle.rpatl_syntax.proofs.PrintedParts.{threshold_share}
use Rattle.rpatl_syntax.proofs.PrintedTokens.{team_tokens, bound_tokens, until_tokens, kind_tokens, tokens_with}
use Rattle.rpatl_syntax.proofs.PrintedTokens.{tokens_in, state_tokens}

-- 1. Coalitions and bounds.

pub lays_nothing : (rest : List ℕ) → Lays [] [] rest
lays_nothing rest = λ place. let e : place ≡ place + length {A = ℕ} [] = omega arith in ap (λ p. tokens_from p 0 rest) e

lays_end_of_team : (rest : List ℕ) → Lays (codes ">> ") (codes ">>" ∷ []) rest
lays_end_of_team rest = lays_append (codes ">>") (32 ∷ []) (codes ">>" ∷ []) [] rest
    (lays_token 62 (62 ∷ []) (32 ∷ rest) refl) (lays_blank rest)

pub lays_team : (team : Option (List (List ℕ))) → HasWords team → (rest : List ℕ)
    → Lays (coalition_spelling team) (team_tokens team) rest
lays_team None w rest = lays_nothing rest
lays_team (Some []) w rest = lays_append (codes "<<") (codes ">> ") (codes "<<" ∷ []) (codes ">>" ∷ []) rest
    (lays_token 60 (60 ∷ []) (codes ">> " ++ rest) refl) (lays_end_of_team rest)
lays_team (Some (name ∷ others)) w rest =
    lays_append (codes "<<") (names_spelling (name ∷ others) ++ codes ">> ") (codes "<<" ∷ [])
    (with_commas (name ∷ others) ++ codes ">>" ∷ []) rest
    (lays_token 60 (60 ∷ []) ((names_spelling (name ∷ others) ++ codes ">> ") ++ rest) refl)
    (lays_append (names_spelling (name ∷ others)) (codes ">> ") (with_commas (name ∷ others)) (codes ">>" ∷ []) rest
    (lays_names name others w (codes ">> " ++ rest) refl) (lays_end_of_team rest))

-- a sign that a digit ends, and a number before a blank
pub lays_threshold : (sign : List ℕ) (p : Fraction) (rest : List ℕ) → HasFewDigits p
    → ((d : ℕ) (more : List ℕ) → is_digit d ≡ true → Lays sign (sign ∷ []) (d ∷ more))
    → Lays (sign ++ fraction_spelling p) (sign ∷ fraction_spelling p ∷ []) (32 ∷ rest)
lays_threshold sign p rest is lays =
    let t = fraction_text p is in
    let P : List ℕ → Type 0 = λ text. Lays (sign ++ text) (sign ∷ text ∷ []) (32 ∷ rest) in
    subst P (sym t.whole)
    (lays_append sign (t.first ∷ t.others) (sign ∷ []) ((t.first ∷ t.others) ∷ []) (32 ∷ rest)
    (lays t.first (t.others ++ 32 ∷ rest) t.digit) (lays_number t.first t.others rest t.digit t.rest))

-- `P` before them
lays_comparison : (sign : List ℕ) (p : Fraction) (rest : List ℕ) → IsShare p
    → ((d : ℕ) (more : List ℕ) → is_digit d ≡ true → Lays sign (sign ∷ []) (d ∷ more))
    → ((more : List ℕ) → Lays (codes "P") (codes "P" ∷ []) (sign ++ more))
    → Lays (codes "P" ++ (sign ++ fraction_spelling p)) (codes "P" ∷ sign ∷ fraction_spelling p ∷ []) (32 ∷ rest)
lays_comparison sign p rest is lays word =
    let Q : List ℕ → Type 0 = λ more. Lays (codes "P") (codes "P" ∷ []) more in
    lays_append (codes "P") (sign ++ fraction_spelling p) (codes "P" ∷ []) (sign ∷ fraction_spelling p ∷ [])
    (32 ∷ rest) (subst Q (sym (append_assoc sign (fraction_spelling p) (32 ∷ rest)))
    (word (fraction_spelling p ++ 32 ∷ rest))) (lays_threshold sign p rest (share_digits p is) lays)

lays_bound : (b : Bound) → HasShare b → (rest : List ℕ) → Lays (bound_spelling b) (bound_tokens b) (32 ∷ rest)
lays_bound (AtLeast p) is rest = lays_comparison (codes ">=") p rest is
    (λ d more e. lays_token 62 (61 ∷ []) (d ∷ more) refl) (λ more. lays_token 80 [] (62 ∷ 61 ∷ more) refl)
lays_bound (Above p) is rest =
    lays_comparison (codes ">") p rest is lays_above (λ more. lays_token 80 [] (62 ∷ more) refl)
lays_bound (AtMost p) is rest = lays_comparison (codes "<=") p rest is
    (λ d more e. lays_token 60 (61 ∷ []) (d ∷ more) refl) (λ more. lays_token 80 [] (60 ∷ 61 ∷ more) refl)
lays_bound (Below p) is rest =
    lays_comparison (codes "<") p rest is lays_below (λ more. lays_token 80 [] (60 ∷ more) refl)
lays_bound AskMax is rest =
    lays_append (codes "Pmax") (codes "=?") (codes "Pmax" ∷ []) (codes "=?" ∷ []) (32 ∷ rest)
    (lays_token 80 (109 ∷ 97 ∷ 120 ∷ []) (61 ∷ 63 ∷ 32 ∷ rest) refl) (lays_token 61 (63 ∷ []) (32 ∷ rest) refl)
lays_bound AskMin is rest =
    lays_append (codes "Pmin") (codes "=?") (codes "Pmin" ∷ []) (codes "=?" ∷ []) (32 ∷ rest)
    (lays_token 80 (109 ∷ 105 ∷ 110 ∷ []) (61 ∷ 63 ∷ 32 ∷ rest) refl) (lays_token 61 (63 ∷ []) (32 ∷ rest) refl)

-- 2. Labels, brackets and signs.

pub lays_label : (name rest : List ℕ) → IsName name → Lays (34 ∷ (name ++ 34 ∷ [])) ((34 ∷ (name ++ 34 ∷ [])) ∷ []) rest
lays_label name rest is =
    let size : 0 + length name + 2 ≡ length (name ++ 34 ∷ []) + 1 = omega (arith, length-append name (34 ∷ [])) in
    lays_token 34 (name ++ 34 ∷ []) rest
    (ap (λ t. name_from 0 t) (append_assoc name (34 ∷ []) rest)
    ∙ name_reads name 0 rest is.bytes (omega (arith, is.short)) (omega (arith, is.some)) ∙ ap (λ k. Spelling k) size)

lays_true : (rest : List ℕ) → Ends rest → Lays (codes "true") (codes "true" ∷ []) rest
lays_true rest e = lays_token 116 (114 ∷ 117 ∷ 101 ∷ []) rest (ap (λ n. Spelling (n + 1 + 1 + 1 + 1)) e)

lays_false : (rest : List ℕ) → Ends rest → Lays (codes "false") (codes "false" ∷ []) rest
lays_false rest e = lays_token 102 (97 ∷ 108 ∷ 115 ∷ 101 ∷ []) rest (ap (λ n. Spelling (n + 1 + 1 + 1 + 1 + 1)) e)

-- a text in brackets or without
lays_in : (b : Bool) (text : List ℕ) (us : List (List ℕ))
    → ((rest : List ℕ) → Ends rest → Lays text us rest) → (rest : List ℕ) → Ends rest
    → Lays (cond b (codes "(" ++ (text ++ codes ")")) text) (cond b (codes "(" ∷ (us ++ codes ")" ∷ [])) us) rest
lays_in false text us lays rest e = lays rest e
lays_in true text us lays rest e =
    lays_append (codes "(") (text ++ codes ")") (codes "(" ∷ []) (us ++ codes ")" ∷ []) rest
    (lays_open ((text ++ codes ")") ++ rest))
    (lays_append text (codes ")") us (codes ")" ∷ []) rest (lays (codes ")" ++ rest) refl) (lays_close rest))

lays_place : (least : ℕ) (x : State) → ((rest : List ℕ) → Ends rest → Lays (state_spelling x) (state_tokens x) rest)
    → (rest : List ℕ) → Ends rest → Lays (in_place least x (state_spelling x)) (tokens_in least x (state_tokens x)) rest
lays_place least x lays rest e = lays_in (nat_lt (strength_of x) least) (state_spelling x) (state_tokens x) lays rest e

-- two operands with a sign between them
lays_both : (left right sign : List ℕ) (us vs : List (List ℕ)) (rest : List ℕ)
    → Lays left us ((spaced sign ++ right) ++ rest) → ((more : List ℕ) → Lays sign (sign ∷ []) (32 ∷ more))
    → Lays right vs rest → Lays (left ++ (spaced sign ++ right)) (between us sign vs) rest
lays_both left right sign us vs rest a s b =
    lays_append left (spaced sign ++ right) us (sign ∷ vs) rest a
    (lays_append (spaced sign) right (sign ∷ []) vs rest (lays_spaced sign (right ++ rest) (s (right ++ rest))) b)

-- 3. Formulas.

-- a text that may stand where no word goes on
abbrev LaysWhereEnds : List ℕ → List (List ℕ) → Type 0
LaysWhereEnds text us = (rest : List ℕ) → Ends rest → Lays text us rest

lays_left : (x : List ℕ) (us : List (List ℕ)) (rest : List ℕ) → LaysWhereEnds x us → Ends rest
    → Lays (x ++ codes " U") (us ++ codes "U" ∷ []) rest
lays_left x us rest lays e =
    lays_append x (codes " U") us (codes "U" ∷ []) rest (lays (codes " U" ++ rest) refl)
    (lays_append (32 ∷ []) (codes "U") [] (codes "U" ∷ []) rest (lays_blank (codes "U" ++ rest))
    (lays_token 85 [] rest (ap (λ n. Spelling (n + 1)) e)))

lays_until : (left : State) (x : List ℕ) (us : List (List ℕ)) (rest : List ℕ) → LaysWhereEnds x us → Ends rest
    → Lays (until_spelling left x) (until_tokens left us) rest
lays_until True x us rest lays e = lays_token 70 [] rest (ap (λ n. Spelling (n + 1)) e)
lays_until left x us rest lays e = lays_left x us rest lays e

lays_steps : (k : ℕ) → k ≤ most_steps → (rest : List ℕ)
    → Lays (codes "<=" ++ decimal k) (codes "<=" ∷ decimal k ∷ []) (32 ∷ rest)
lays_steps k h rest =
    let t = steps_text k h in
    let P : List ℕ → Type 0 = λ text. Lays (codes "<=" ++ text) (codes "<=" ∷ text ∷ []) (32 ∷ rest) in
    subst P (sym t.whole)
    (lays_append (codes "<=") (t.first ∷ t.others) (codes "<=" ∷ []) ((t.first ∷ t.others) ∷ []) (32 ∷ rest)
    (lays_token 60 (61 ∷ []) ((t.first ∷ t.others) ++ 32 ∷ rest) refl)
    (lays_number t.first t.others rest t.digit t.rest))

lays_kind : (kind : PathKind) (left : State) (x : List ℕ) (us : List (List ℕ)) (rest : List ℕ) → HasKind kind left
    → LaysWhereEnds x us → Lays (kind_spelling kind left x) (kind_tokens kind left us) (32 ∷ rest)
lays_kind Until left x us rest h lays = lays_until left x us (32 ∷ rest) lays refl
lays_kind (Within k) left x us rest h lays =
    lays_append (until_spelling left x) (codes "<=" ++ decimal k) (until_tokens left us) (codes "<=" ∷ decimal k ∷ [])
    (32 ∷ rest) (lays_until left x us ((codes "<=" ++ decimal k) ++ 32 ∷ rest) lays refl) (lays_steps k h rest)
lays_kind Next left x us rest h lays = lays_token 88 [] (32 ∷ rest) refl
lays_kind Always left x us rest h lays = lays_token 71 [] (32 ∷ rest) refl

-- a path and its `]`
lays_closed : (kind : PathKind) (left : State) (x y : List ℕ) (us vs : List (List ℕ)) (rest : List ℕ)
    → HasKind kind left → LaysWhereEnds x us → LaysWhereEnds y vs
    → Lays (kind_spelling kind left x ++ (codes " " ++ (y ++ codes " ]")))
    ((kind_tokens kind left us ++ vs) ++ codes "]" ∷ []) rest
lays_closed kind left x y us vs rest h lx ly =
    let P : List (List ℕ) → Type 0 =
    λ ts. Lays (kind_spelling kind left x ++ (codes " " ++ (y ++ codes " ]"))) ts rest in
    let close : Lays (codes " ]") (codes "]" ∷ []) rest =
    lays_append (32 ∷ []) (codes "]") [] (codes "]" ∷ []) rest (lays_blank (codes "]" ++ rest)) (lays_bracket rest) in
    let right = lays_append y (codes " ]") vs (codes "]" ∷ []) rest (ly (codes " ]" ++ rest) refl) close in
    let spaced_right = lays_append (32 ∷ []) (y ++ codes " ]") [] (vs ++ codes "]" ∷ []) rest
    (lays_blank ((y ++ codes " ]") ++ rest)) right in
    subst P (sym (append_assoc (kind_tokens kind left us) vs (codes "]" ∷ [])))
    (lays_append (kind_spelling kind left x) (codes " " ++ (y ++ codes " ]")) (kind_tokens kind left us)
    (vs ++ codes "]" ∷ []) rest (lays_kind kind left x us ((y ++ codes " ]") ++ rest) h lx) spaced_right)

pub lays_with : (team : Option (List (List ℕ))) (bound : Bound) (kind : PathKind) (left : State) (x y : List ℕ)
    (us vs : List (List ℕ)) (rest : List ℕ) → HasWords team → HasShare bound → HasKind kind left → LaysWhereEnds x us
    → LaysWhereEnds y vs → Lays (spelling_with team bound kind left x y) (tokens_with team bound kind left us vs) rest
lays_with team bound kind left x y us vs rest words share h lx ly =
    let text = kind_spelling kind left x ++ (codes " " ++ (y ++ codes " ]")) in
    let tokens = (kind_tokens kind left us ++ vs) ++ codes "]" ∷ [] in
    let opened = lays_append (spaced (codes "[")) text (codes "[" ∷ []) tokens rest
    (lays_spaced (codes "[") (text ++ rest) (lays_token 91 [] (32 ∷ (text ++ rest)) refl))
    (lays_closed kind left x y us vs rest h lx ly) in
    let asked = lays_append (bound_spelling bound) (codes " [ " ++ text) (bound_tokens bound) (codes "[" ∷ tokens) rest
    (lays_bound bound share (91 ∷ 32 ∷ (text ++ rest))) opened in
    lays_append (coalition_spelling team) (bound_spelling bound ++ (codes " [ " ++ text))
    (team_tokens team) (bound_tokens bound ++ codes "[" ∷ tokens) rest
    (lays_team team words ((bound_spelling bound ++ (codes " [ " ++ text)) ++ rest)) asked

pub lays_state : (x : State) → HasParts x → (rest : List ℕ) → Ends rest → Lays (state_spelling x) (state_tokens x) rest
lays_state True parts rest e = lays_true rest e
lays_state False parts rest e = lays_false rest e
lays_state (Label name) parts rest e = lays_label name rest parts
lays_state (Not x) parts rest e =
    lays_append (codes "!") (in_place 3 x (state_spelling x)) (codes "!" ∷ []) (tokens_in 3 x (state_tokens x)) rest
    (lays_not (in_place 3 x (state_spelling x) ++ rest))
    (lays_place 3 x (lays_state x parts) rest e)
lays_state (And x y) parts rest e =
    lays_both (in_place 2 x (state_spelling x)) (in_place 3 y (state_spelling y)) (codes "&") _ _ rest
    (lays_place 2 x (lays_state x parts.0) _ refl) (λ more. lays_token 38 [] (32 ∷ more) refl)
    (lays_place 3 y (lays_state y parts.1) rest e)
lays_state (Or x y) parts rest e =
    lays_both (in_place 1 x (state_spelling x)) (in_place 2 y (state_spelling y)) (codes "|") _ _ rest
    (lays_place 1 x (lays_state x parts.0) _ refl) (λ more. lays_token 124 [] (32 ∷ more) refl)
    (lays_place 2 y (lays_state y parts.1) rest e)
lays_state (Implies x y) parts rest e =
    lays_both (in_place 0 x (state_spelling x)) (in_place 1 y (state_spelling y)) (codes "=>") _ _ rest
    (lays_place 0 x (lays_state x parts.0) _ refl) (λ more. lays_token 61 (62 ∷ []) (32 ∷ more) refl)
    (lays_place 1 y (lays_state y parts.1) rest e)
lays_state (Inner team bound kind x y) parts rest e =
    lays_with team bound kind x (state_spelling x) (state_spelling y) (state_tokens x)
    (state_tokens y) rest parts.0.words (threshold_share bound parts.0.threshold) parts.0.kind_is (lays_state x parts.1)
    (lays_state y parts.2)
