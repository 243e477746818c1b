-- The tokens of a text are those into which it is cut.
use Rattle.std.proofs.Common.{◌≡◌, ◌∙◌, ◌+◌, ◌-◌, ◌≤◌, inl, inr, ℕ, zero, suc, List, [], ◌∷◌, ◌++◌, length, take, drop}
use Rattle.std.proofs.Common.{true, cond, refl, ap, sym, subst, arith, nat_lt}
use Rattle.std.specs.Prelude.{◌==◌, ◌&&◌}
use Rattle.std.specs.List.{All}
use Rattle.std.proofs.Math.Seq.{take-append_seam, drop-append_seam}
use Rattle.std.proofs.lemmas.List.{length-append, take-append-drop}
use Rattle.std.proofs.lemmas.List.Elements.{All-nil, All-cons}
use Rattle.text_lines.specs.Text.{is_digit}
use Rattle.formula_tokens.specs.declared.front.Front.{Front}
use Rattle.formula_tokens.specs.declared.front.Front.TheVariants.{Blank, Spelling, Unclosed, Strange}
use Rattle.formula_tokens.specs.Laws.{AreTokens}
use Rattle.formula_tokens.specs.TokenRules.{IsSpelling, IsLongest, AreCut, nothing, blank, token}
use Rattle.formula_tokens.specs.Limits.{longest_name}
use Rattle.formula_tokens.specs.Tokens.{Tokens, Then, tokens_of, in_front, tokens_from, front_from, begins_word}
use Rattle.formula_tokens.specs.Tokens.{in_name}
use Rattle.formula_tokens.specs.Tokens.{is_blank, is_long_sign, is_short_sign, word_length, number_length, name_from}
use Rattle.formula_tokens.specs.Tokens.{sign_from, short_sign}
use Rattle.formula_tokens.proofs.Spans.{chosen}
use Rattle.formula_tokens.proofs.Passing.{token_cut}
use Rattle.formula_tokens.proofs.Lexed.{token_found, found_longest, longest_found}

-- 1. What stands at the front.

-- one token of these bytes
pub token_read : (b : ℕ) (bytes rest : List ℕ) (place : ℕ)
    → front_from b (bytes ++ rest) ≡ Spelling (length bytes + 1) → tokens_from place 0 (b ∷ (bytes ++ rest))
    ≡ Then place (b ∷ bytes) (tokens_from (place + length (b ∷ bytes)) 0 rest)
token_read b bytes rest place e =
    let size : length bytes + 1 ≡ length (b ∷ bytes) = omega arith in
    let cut = token_cut b (bytes ++ rest) place (length (b ∷ bytes)) (e ∙ ap (λ n. Spelling n) size) (omega arith)
    (omega (arith, length-append bytes rest)) in
    cut ∙ ap
    (λ t. Then place t (tokens_from (place + length (b ∷ bytes)) 0 (drop (length (b ∷ bytes)) (b ∷ (bytes ++ rest)))))
    (take-append_seam (b ∷ bytes) rest)
    ∙ ap (λ t. Then place (b ∷ bytes) (tokens_from (place + length (b ∷ bytes)) 0 t))
    (drop-append_seam (b ∷ bytes) rest)

-- the longest spelling
pub longest_read : (spelling rest : List ℕ) (place : ℕ) → IsLongest spelling rest
    → tokens_from place 0 (spelling ++ rest) ≡ Then place spelling (tokens_from (place + length spelling) 0 rest)
longest_read spelling rest place l =
    let f = longest_found spelling rest l in
    let P : List ℕ → Type 0 =
    λ s. tokens_from place 0 (s ++ rest) ≡ Then place s (tokens_from (place + length s) 0 rest) in
    subst P (sym f.whole) (token_read f.first f.others rest place f.front)

pub front_blank : (b : ℕ) (bytes : List ℕ) → is_blank b bytes ≡ true → front_from b bytes ≡ Blank
front_blank b bytes e = ap (λ t. cond t Blank (cond (begins_word b) (Spelling (word_length bytes + 1)) (cond
    (is_digit b) (Spelling (number_length b bytes + 1)) (cond (b == 34) (name_from 0 bytes) (sign_from b bytes))))) e

pub blank_read : (b : ℕ) (bytes : List ℕ) (place : ℕ) → is_blank b bytes ≡ true
    → tokens_from place 0 (b ∷ bytes) ≡ tokens_from (place + 1) 0 bytes
blank_read b bytes place e =
    ap (λ f. in_front place (b ∷ bytes) f (λ more. tokens_from (place + 1) more bytes)) (front_blank b bytes e)

name_not_blank : (bytes : List ℕ) (read : ℕ) → name_from read bytes ≡ Blank → ⊥
name_not_blank [] read e = cc e
name_not_blank (b ∷ bytes) read e =
    elim (chosen (b == 34) (cond (read == 0) Strange (Spelling (read + 2)))
    (cond (in_name b && nat_lt read longest_name) (name_from (read + 1) bytes) Strange) Blank e) [
      | inl q ↦ elim (chosen (read == 0) Strange (Spelling (read + 2)) Blank q.1) [ inl z ↦ cc z.1 | inr z ↦ cc z.1 ]
      | inr q ↦ elim (chosen (in_name b && nat_lt read longest_name) (name_from (read + 1) bytes) Strange Blank q.1) [
        | inl n ↦ name_not_blank bytes (read + 1) n.1
        | inr n ↦ cc n.1
      ]
    ]

short_not_blank : (b : ℕ) → short_sign b ≡ Blank → ⊥
short_not_blank b e = elim (chosen (is_short_sign b) (Spelling 1) Strange Blank e) [ inl t ↦ cc t.1 | inr t ↦ cc t.1 ]

sign_not_blank : (b : ℕ) (bytes : List ℕ) → sign_from b bytes ≡ Blank → ⊥
sign_not_blank b [] e = short_not_blank b e
sign_not_blank b (c ∷ bytes) e = elim (chosen (is_long_sign b c) (Spelling 2) (short_sign b) Blank e) [
  | inl t ↦ cc t.1
  | inr t ↦ short_not_blank b t.1
]

pub blank_found : (b : ℕ) (bytes : List ℕ) → front_from b bytes ≡ Blank → is_blank b bytes ≡ true
blank_found b bytes e =
    elim (chosen (is_blank b bytes) Blank (cond (begins_word b) (Spelling (word_length bytes + 1))
    (cond (is_digit b) (Spelling (number_length b bytes + 1)) (cond (b == 34) (name_from 0 bytes) (sign_from b bytes))))
    Blank e) [
      | inl t ↦ t.0
      | inr t ↦ elim (chosen (begins_word b) (Spelling (word_length bytes + 1)) (cond (is_digit b)
          (Spelling (number_length b bytes + 1)) (cond (b == 34) (name_from 0 bytes) (sign_from b bytes))) Blank t.1) [
            | inl w ↦ cc w.1
            | inr w ↦ elim (chosen (is_digit b) (Spelling (number_length b bytes + 1))
                (cond (b == 34) (name_from 0 bytes) (sign_from b bytes)) Blank w.1) [
                  | inl d ↦ cc d.1
                  | inr d ↦ elim (chosen (b == 34) (name_from 0 bytes) (sign_from b bytes) Blank d.1) [
                    | inl q ↦ absurd (name_not_blank bytes 0 q.1)
                    | inr q ↦ absurd (sign_not_blank b bytes q.1)
                  ]
                ]
          ]
    ]

-- 2. From what is cut to what is read.

pub cut_read : (text : List ℕ) (tokens : List (List ℕ)) → AreCut text tokens → (place : ℕ)
    → AreTokens (tokens_from place 0 text) tokens
cut_read _ _ nothing place = tt
cut_read _ _ (blank b rest tokens e d) place =
    let P : Tokens → Type 0 = λ ts. AreTokens ts tokens in
    subst P (sym (blank_read b rest place e)) (cut_read rest tokens d (place + 1))
cut_read _ _ (token spelling rest tokens l d) place =
    let P : Tokens → Type 0 = λ ts. AreTokens ts (spelling ∷ tokens) in
    subst P (sym (longest_read spelling rest place l)) (refl, cut_read rest tokens d (place + length spelling))

-- 3. From what is read to what is cut.

-- one token, and what is cut behind it
cut_on : (b : ℕ) (bytes : List ℕ) (count : ℕ) (first : List ℕ) (tokens : List (List ℕ))
    → front_from b bytes ≡ Spelling count → take count (b ∷ bytes) ≡ first → AreCut (drop (count - 1) bytes) tokens
    → AreCut (b ∷ bytes) (first ∷ tokens)
cut_on b bytes count first tokens e same behind =
    let t = token_found b bytes count e in
    let l = found_longest b bytes count e in
    let n : suc (count - 1) ≡ count = omega (arith, t.some) in
    let P : ℕ → Type 0 = λ k. AreCut (drop k (b ∷ bytes)) tokens in
    let Q : List ℕ → Type 0 = λ text. AreCut text (take count (b ∷ bytes) ∷ tokens) in
    let R : List ℕ → Type 0 = λ s. AreCut (b ∷ bytes) (s ∷ tokens) in
    subst R same (subst Q (take-append-drop count (b ∷ bytes))
    (token (take count (b ∷ bytes)) (drop count (b ∷ bytes)) tokens l (subst P n behind)))

front_cut : (place b : ℕ) (bytes : List ℕ) (f : Front) (tokens : List (List ℕ))
    → front_from b bytes ≡ f → ((within : ℕ) (more : List (List ℕ)) → within ≤ length bytes
    → AreTokens (tokens_from (place + 1) within bytes) more → AreCut (drop within bytes) more)
    → AreTokens (in_front place (b ∷ bytes) f (λ more. tokens_from (place + 1) more bytes)) tokens
    → AreCut (b ∷ bytes) tokens
front_cut place b bytes Blank tokens e behind a =
    blank b bytes tokens (blank_found b bytes e) (behind 0 tokens (omega arith) a)
front_cut place b bytes (Spelling count) [] e behind a = absurd a
front_cut place b bytes (Spelling count) (first ∷ tokens) e behind a =
    let t = token_found b bytes count e in
    cut_on b bytes count first tokens e a.0 (behind (count - 1) tokens (omega (arith, t.within, t.some)) a.1)
front_cut place b bytes Unclosed tokens e behind a = absurd a
front_cut place b bytes Strange tokens e behind a = absurd a

read_cut : (text : List ℕ) (place within : ℕ) (tokens : List (List ℕ)) → within ≤ length text
    → AreTokens (tokens_from place within text) tokens → AreCut (drop within text) tokens
read_cut [] place zero [] h a = nothing
read_cut [] place zero (first ∷ tokens) h a = absurd a
read_cut [] place (suc within) tokens h a = absurd (omega (arith, h))
read_cut (b ∷ bytes) place zero tokens h a =
    front_cut place b bytes (front_from b bytes) tokens refl
    (λ within more small are. read_cut bytes (place + 1) within more small are) a
read_cut (b ∷ bytes) place (suc within) tokens h a = read_cut bytes (place + 1) within tokens (omega (arith, h)) a

pub tokens_cut : (text : List ℕ) (tokens : List (List ℕ)) → AreTokens (tokens_of text) tokens → AreCut text tokens
tokens_cut text tokens a = read_cut text 0 0 tokens (omega arith) a

-- each token of a text has a spelling
pub cut_spelled : (text : List ℕ) (tokens : List (List ℕ)) → AreCut text tokens → All IsSpelling tokens
cut_spelled _ _ nothing = All-nil IsSpelling
cut_spelled _ _ (blank b rest tokens e d) = cut_spelled rest tokens d
cut_spelled _ _ (token spelling rest tokens l d) = All-cons IsSpelling spelling tokens l.is (cut_spelled rest tokens d)
