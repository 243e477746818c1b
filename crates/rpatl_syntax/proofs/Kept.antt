-- What is read as a name, a coalition or a bound can be spelled.
use Rattle.std.proofs.Common.{◌≡◌, ◌∙◌, ◌-◌, ℕ, List, [], ◌∷◌, ◌++◌, length, take, true, Option, Some, None, refl, ap}
use Rattle.std.proofs.Common.{sym, subst, arith}
use Rattle.std.proofs.lemmas.Bool.{and_from}
use Rattle.std.specs.Prelude.{◌||◌, codes}
use Rattle.std.specs.List.{list_all, All}
use Rattle.std.proofs.Math.Seq.{take-append_seam}
use Rattle.std.proofs.lemmas.List.{length-append}
use Rattle.std.proofs.lemmas.List.Elements.{All-nil, All-cons, All-head, All-tail}
use Rattle.fractions.specs.Fraction.{Fraction}
use Rattle.text_lines.specs.Text.{is_digit}
use Rattle.formula_reader.specs.declared.formula.Bound.{Bound}
use Rattle.formula_reader.specs.declared.formula.Bound.TheVariants.{AtLeast, Above, AtMost, Below, AskMax, AskMin}
use Rattle.formula_tokens.specs.Tokens.{in_word}
use Rattle.formula_tokens.specs.TokenRules.{IsName, IsSpelling, word, number, quoted_name, long_sign, short_sign}
use Rattle.formula_tokens.specs.Reading.{is_word, is_quoted, unquoted}
use Rattle.formula_reader.specs.Rules.{with_commas, IsWord, IsCoalition, IsComparison, IsBound, Compares}
use Rattle.rpatl_syntax.specs.Spellable.{IsWholeWord, HasWords, IsShare, HasShare, HasThreshold}
use Rattle.formula_tokens.proofs.Fronts.{word_no_quote, digit_no_quote, digit_begins_no_word, long_is_other}
use Rattle.formula_tokens.proofs.Fronts.{short_is_other}

pub all_left : (ts us : List (List ℕ)) → All IsSpelling (ts ++ us) → All IsSpelling ts
all_left [] us a = All-nil IsSpelling
all_left (t ∷ ts) us a =
    All-cons IsSpelling t ts (All-head IsSpelling t (ts ++ us) a) (all_left ts us (All-tail IsSpelling t (ts ++ us) a))

pub all_right : (ts us : List (List ℕ)) → All IsSpelling (ts ++ us) → All IsSpelling us
all_right [] us a = a
all_right (t ∷ ts) us a = all_right ts us (All-tail IsSpelling t (ts ++ us) a)

pub unquoted-quoted : (name : List ℕ) → unquoted (34 ∷ (name ++ 34 ∷ [])) ≡ name
unquoted-quoted name =
    let size : length (34 ∷ (name ++ 34 ∷ [])) - 2 ≡ length name = omega (arith, length-append name (34 ∷ [])) in
    ap (λ n. take n (name ++ 34 ∷ [])) size ∙ take-append_seam name (34 ∷ [])

-- a spelling that begins with `"` is that of a quoted name
quoted_kept : (token : List ℕ) → IsSpelling token → is_quoted token ≡ true
    → (name : List ℕ) × (token ≡ 34 ∷ (name ++ 34 ∷ [])) × IsName name
quoted_kept _ (word b bytes w a) q = cc (q, word_no_quote b w)
quoted_kept _ (number b bytes d a) q = cc (q, digit_no_quote b d)
quoted_kept _ (quoted_name name is) q = (name, refl, is)
quoted_kept _ (long_sign b c e) q = cc (q, (long_is_other b c [] e).quote)
quoted_kept _ (short_sign b e) q = cc (q, (short_is_other b [] e).quote)

pub label_kept : (token : List ℕ) → is_quoted token ≡ true → IsSpelling token → IsName (unquoted token)
label_kept token q s =
    let n = quoted_kept token s q in
    let P : List ℕ → Type 0 = λ t. IsName t in
    subst P (sym (ap unquoted n.1 ∙ unquoted-quoted n.0)) n.2

-- a spelling that begins with a letter or `_` is that of a word
pub word_kept : (token : List ℕ) → IsSpelling token → is_word token ≡ true → IsWholeWord token
word_kept _ (word b bytes w a) e =
    record { begins = e; bytes = and_from (in_word b) (list_all in_word bytes) (ap (λ t. t || is_digit b) w) a }
word_kept _ (number b bytes d a) e = cc (e, digit_begins_no_word b d)
word_kept _ (quoted_name name is) e = cc e
word_kept _ (long_sign b c f) e = cc (e, (long_is_other b c [] f).word)
word_kept _ (short_sign b f) e = cc (e, (short_is_other b [] f).word)

words_whole : (name : List ℕ) (others : List (List ℕ)) → All IsWord (name ∷ others)
    → All IsSpelling (with_commas (name ∷ others) ++ codes ">>" ∷ []) → All IsWholeWord (name ∷ others)
words_whole name [] w a =
    let first : IsSpelling name = All-head IsSpelling name (codes ">>" ∷ []) a in
    All-cons IsWholeWord name [] (word_kept name first (All-head IsWord name [] w)) (All-nil IsWholeWord)
words_whole name (other ∷ more) w a =
    let back = with_commas (other ∷ more) ++ codes ">>" ∷ [] in
    let first : IsSpelling name = All-head IsSpelling name (codes "," ∷ back) a in
    let rest : All IsSpelling back =
    All-tail IsSpelling (codes ",") back (All-tail IsSpelling name (codes "," ∷ back) a) in
    All-cons IsWholeWord name (other ∷ more) (word_kept name first (All-head IsWord name (other ∷ more) w))
    (words_whole other more (All-tail IsWord name (other ∷ more) w) rest)

pub coalition_kept : (us : List (List ℕ)) (team : Option (List (List ℕ))) → IsCoalition us team
    → All IsSpelling us → HasWords team
coalition_kept us None d a = tt
coalition_kept us (Some []) d a = All-nil IsWholeWord
coalition_kept us (Some (name ∷ others)) d a =
    let back = with_commas (name ∷ others) ++ codes ">>" ∷ [] in
    let b : All IsSpelling (codes "<<" ∷ back) = subst (All IsSpelling) d.0 a in
    words_whole name others d.1 (All-tail IsSpelling (codes "<<") back b)

share_of : (sign : List ℕ) (us : List (List ℕ)) (p : Fraction) → IsComparison sign us p → IsShare p
share_of sign us p d = let t = d.2 in record { fraction = t.value.fraction; small = t.small }

pub bound_kept : (us : List (List ℕ)) (b : Bound) → IsBound us b → HasShare b
bound_kept us (AtLeast p) d = share_of (codes ">=") us p d
bound_kept us (Above p) d = share_of (codes ">") us p d
bound_kept us (AtMost p) d = share_of (codes "<=") us p d
bound_kept us (Below p) d = share_of (codes "<") us p d
bound_kept us AskMax d = tt
bound_kept us AskMin d = tt

-- of a formula inside
pub threshold_kept : (us : List (List ℕ)) (b : Bound) → IsBound us b → Compares b → HasThreshold b
threshold_kept us (AtLeast p) d c = share_of (codes ">=") us p d
threshold_kept us (Above p) d c = share_of (codes ">") us p d
threshold_kept us (AtMost p) d c = share_of (codes "<=") us p d
threshold_kept us (Below p) d c = share_of (codes "<") us p d
threshold_kept us AskMax d c = absurd c
threshold_kept us AskMin d c = absurd c
