-- The tokens of printed signs, names and numbers.
use Rattle.std.proofs.Common.{◌≡◌, ◌∙◌, ◌+◌, ℕ, List, [], ◌∷◌, ◌++◌, length, Bool, true, false, cond, refl, ap, sym}
use Rattle.std.proofs.Common.{subst, arith, append_assoc}
use Rattle.std.proofs.lemmas.Bool.{and_parts}
use Rattle.std.specs.Prelude.{◌==◌, ◌||◌, ◌&&◌, codes}
use Rattle.std.specs.List.{list_all, All}
use Rattle.std.proofs.lemmas.List.{length-append}
use Rattle.std.proofs.lemmas.List.Elements.{All-head, All-tail}
use Rattle.std.proofs.lemmas.Bool.Decides.{nat_tests}
use Rattle.text_lines.specs.Text.{is_digit}
use Rattle.formula_tokens.specs.declared.front.Front.TheVariants.{Spelling}
use Rattle.rpatl_syntax.specs.Spelling.{names_spelling}
use Rattle.formula_tokens.specs.Tokens.{tokens_from, front_from, in_word, is_letter, in_number, word_length}
use Rattle.formula_tokens.specs.Tokens.{number_length, is_long_sign}
use Rattle.formula_tokens.specs.Reading.{is_word}
use Rattle.formula_reader.specs.Rules.{with_commas}
use Rattle.rpatl_syntax.specs.Spellable.{IsWholeWord}
use Rattle.formula_tokens.proofs.Spans.{Spans, spans_append}
use Rattle.formula_tokens.proofs.Fronts.{front_word, front_number}
use Rattle.formula_tokens.proofs.Cutting.{token_read}

-- wherever the text stands before rest, these are its tokens
abbrev pub Lays : List ℕ → List (List ℕ) → List ℕ → Type 0
Lays text us rest = (place : ℕ)
    → Spans (tokens_from place 0 (text ++ rest)) us (tokens_from (place + length text) 0 rest)

pub lays_append : (text more : List ℕ) (us vs : List (List ℕ)) (rest : List ℕ) → Lays text us (more ++ rest)
    → Lays more vs rest → Lays (text ++ more) (us ++ vs) rest
lays_append text more us vs rest a b = λ place.
    let whole = spans_append us vs (tokens_from place 0 (text ++ (more ++ rest)))
    (tokens_from (place + length text) 0 (more ++ rest)) (tokens_from (place + length text + length more) 0 rest)
    (a place) (b (place + length text)) in
    let size : place + length text + length more ≡ place + length (text ++ more) =
    omega (arith, length-append text more) in
    let P : List ℕ → Type 0 =
    λ t. Spans (tokens_from place 0 t) (us ++ vs) (tokens_from (place + length (text ++ more)) 0 rest) in
    let Q : ℕ → Type 0 = λ n. Spans (tokens_from place 0 (text ++ (more ++ rest))) (us ++ vs) (tokens_from n 0 rest) in
    subst P (sym (append_assoc text more rest)) (subst Q size whole)

-- one token
pub lays_token : (b : ℕ) (bytes rest : List ℕ) → front_from b (bytes ++ rest) ≡ Spelling (length bytes + 1)
    → Lays (b ∷ bytes) ((b ∷ bytes) ∷ []) rest
lays_token b bytes rest e =
    λ place. (place, tokens_from (place + length (b ∷ bytes)) 0 rest, token_read b bytes rest place e, refl)

pub lays_blank : (rest : List ℕ) → Lays (32 ∷ []) [] rest
lays_blank rest = λ place. refl

-- no word goes on there
abbrev pub Ends : List ℕ → Type 0
Ends rest = word_length rest ≡ 0

-- signs

pub lays_open : (rest : List ℕ) → Lays (codes "(") (codes "(" ∷ []) rest
lays_open [] = lays_token 40 [] [] refl
lays_open (c ∷ rest) = lays_token 40 [] (c ∷ rest) refl

pub lays_close : (rest : List ℕ) → Lays (codes ")") (codes ")" ∷ []) rest
lays_close [] = lays_token 41 [] [] refl
lays_close (c ∷ rest) = lays_token 41 [] (c ∷ rest) refl

pub lays_not : (rest : List ℕ) → Lays (codes "!") (codes "!" ∷ []) rest
lays_not [] = lays_token 33 [] [] refl
lays_not (c ∷ rest) = lays_token 33 [] (c ∷ rest) refl

pub lays_bracket : (rest : List ℕ) → Lays (codes "]") (codes "]" ∷ []) rest
lays_bracket [] = lays_token 93 [] [] refl
lays_bracket (c ∷ rest) = lays_token 93 [] (c ∷ rest) refl

pub lays_comma : (rest : List ℕ) → Lays (codes ",") (codes "," ∷ []) rest
lays_comma [] = lays_token 44 [] [] refl
lays_comma (c ∷ rest) = lays_token 44 [] (c ∷ rest) refl

-- a sign between two blanks
abbrev pub spaced : List ℕ → List ℕ
spaced sign = 32 ∷ (sign ++ 32 ∷ [])

pub lays_spaced : (sign rest : List ℕ) → Lays sign (sign ∷ []) (32 ∷ rest) → Lays (spaced sign) (sign ∷ []) rest
lays_spaced sign rest lays =
    lays_append (32 ∷ []) (sign ++ 32 ∷ []) [] (sign ∷ []) rest (lays_blank ((sign ++ 32 ∷ []) ++ rest))
    (lays_append sign (32 ∷ []) (sign ∷ []) [] rest lays (lays_blank rest))

-- names

word_goes_on : (bytes rest : List ℕ) → list_all in_word bytes ≡ true → Ends rest
    → word_length (bytes ++ rest) ≡ length bytes
word_goes_on [] rest a e = e
word_goes_on (b ∷ bytes) rest a e =
    let parts = and_parts (in_word b) (list_all in_word bytes) a in
    let n : length bytes + 1 ≡ length (b ∷ bytes) = omega arith in
    ap (λ t. cond t (word_length (bytes ++ rest) + 1) 0) parts.0
    ∙ ap (λ k. k + 1) (word_goes_on bytes rest parts.1 e) ∙ n

pub lays_word : (word rest : List ℕ) → is_word word ≡ true → list_all in_word word ≡ true → Ends rest
    → Lays word (word ∷ []) rest
lays_word [] rest w a e = cc w
lays_word (b ∷ bytes) rest w a e =
    let parts = and_parts (in_word b) (list_all in_word bytes) a in
    lays_token b bytes rest
    (front_word b (bytes ++ rest) w ∙ ap (λ n. Spelling (n + 1)) (word_goes_on bytes rest parts.1 e))

lays_whole_word : (word rest : List ℕ) → IsWholeWord word → Ends rest → Lays word (word ∷ []) rest
lays_whole_word word rest is e = lays_word word rest is.begins is.bytes e

pub lays_names : (name : List ℕ) (others : List (List ℕ)) → All IsWholeWord (name ∷ others) → (rest : List ℕ)
    → Ends rest → Lays (names_spelling (name ∷ others)) (with_commas (name ∷ others)) rest
lays_names name [] words rest e = lays_whole_word name rest (All-head IsWholeWord name [] words) e
lays_names name (other ∷ more) words rest e =
    lays_append name (codes "," ++ names_spelling (other ∷ more)) (name ∷ [])
    (codes "," ∷ with_commas (other ∷ more)) rest
    (lays_whole_word name ((codes "," ++ names_spelling (other ∷ more)) ++ rest)
    (All-head IsWholeWord name (other ∷ more) words) refl)
    (lays_append (codes ",") (names_spelling (other ∷ more)) (codes "," ∷ []) (with_commas (other ∷ more)) rest
    (lays_comma (names_spelling (other ∷ more) ++ rest))
    (lays_names other more (All-tail IsWholeWord name (other ∷ more) words) rest e))

-- numbers

-- a digit or the line of a fraction
abbrev pub in_fraction : ℕ → Bool
in_fraction b = is_digit b || b == 47

abbrev pub all_in_fraction : List ℕ → Bool
all_in_fraction [] = true
all_in_fraction (b ∷ bytes) = in_fraction b && all_in_fraction bytes

in_number_from : (before b : ℕ) → in_fraction b ≡ true → in_number before b ≡ true
in_number_from before b e =
    by_tests (is_letter b) (is_digit b) (b == 46) (b == 47) ((b == 43 || b == 45) && (before == 101 || before == 69)) e
  where
    by_tests : (l d p s r : Bool) → (d || s) ≡ true → ((((l || d) || p) || s) || r) ≡ true
    by_tests true d p s r e = refl
    by_tests false true p s r e = refl
    by_tests false false true s r e = refl
    by_tests false false false true r e = refl
    by_tests false false false false r e = cc

number_goes_on : (bytes : List ℕ) (before : ℕ) (rest : List ℕ) → all_in_fraction bytes ≡ true
    → number_length before (bytes ++ 32 ∷ rest) ≡ length bytes
number_goes_on [] before rest a = blank_ends (before == 101 || before == 69)
  where
    blank_ends : (t : Bool) → cond (false && t) (number_length 32 rest + 1) 0 ≡ 0
    blank_ends t = refl
number_goes_on (b ∷ bytes) before rest a =
    let parts = and_parts (in_fraction b) (all_in_fraction bytes) a in
    let n : length bytes + 1 ≡ length (b ∷ bytes) = omega arith in
    ap (λ t. cond t (number_length b (bytes ++ 32 ∷ rest) + 1) 0) (in_number_from before b parts.0)
    ∙ ap (λ k. k + 1) (number_goes_on bytes b rest parts.1) ∙ n

-- a number before a blank
pub lays_number : (b : ℕ) (bytes rest : List ℕ) → is_digit b ≡ true → all_in_fraction bytes ≡ true
    → Lays (b ∷ bytes) ((b ∷ bytes) ∷ []) (32 ∷ rest)
lays_number b bytes rest d a =
    lays_token b bytes (32 ∷ rest)
    (front_number b (bytes ++ 32 ∷ rest) d ∙ ap (λ n. Spelling (n + 1)) (number_goes_on bytes b rest a))

digit_ends_above : (d : ℕ) → is_digit d ≡ true → is_long_sign 62 d ≡ false
digit_ends_above d e = grind (arith, nat_tests)

digit_ends_below : (d : ℕ) → is_digit d ≡ true → is_long_sign 60 d ≡ false
digit_ends_below d e = grind (arith, nat_tests)

pub lays_above : (d : ℕ) (rest : List ℕ) → is_digit d ≡ true → Lays (codes ">") (codes ">" ∷ []) (d ∷ rest)
lays_above d rest e = lays_token 62 [] (d ∷ rest) (ap (λ t. cond t (Spelling 2) (Spelling 1)) (digit_ends_above d e))

pub lays_below : (d : ℕ) (rest : List ℕ) → is_digit d ≡ true → Lays (codes "<") (codes "<" ∷ []) (d ∷ rest)
lays_below d rest e = lays_token 60 [] (d ∷ rest) (ap (λ t. cond t (Spelling 2) (Spelling 1)) (digit_ends_below d e))
