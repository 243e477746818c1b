-- Where a spelling stands at the front of a text, the token there is at least as long.
use Rattle.std.proofs.Common.{◌≡◌, ◌∙◌, ◌+◌, ◌<◌, ◌≤◌, ℕ, List, [], ◌∷◌, ◌++◌, length, Bool, true, false, cond, not}
use Rattle.std.proofs.Common.{refl, ap, arith, nat_lt, append_assoc}
use Rattle.std.proofs.lemmas.Bool.{and_parts}
use Rattle.std.specs.Prelude.{◌==◌, ◌&&◌}
use Rattle.std.specs.List.{list_all}
use Rattle.std.proofs.lemmas.Bool.Decides.{nat_tests}
use Rattle.std.proofs.lemmas.List.{length-append}
use Rattle.text_lines.specs.Text.{is_digit}
use Rattle.formula_tokens.specs.declared.front.Front.TheVariants.{Blank, Spelling, Strange}
use Rattle.formula_tokens.specs.TokenRules.{go_on_number, is_name_byte, IsSpelling, word, number, quoted_name}
use Rattle.formula_tokens.specs.TokenRules.{long_sign}
use Rattle.formula_tokens.specs.TokenRules.{short_sign}
use Rattle.formula_tokens.specs.Limits.{longest_name}
use Rattle.formula_tokens.specs.Tokens.{front_from, begins_word, in_word, in_number, in_name, is_blank, is_long_sign}
use Rattle.formula_tokens.specs.Tokens.{is_short_sign, word_length, number_length, name_from, sign_from}
use Rattle.formula_tokens.specs.Tokens.{short_sign as sign_alone}

-- 1. What the first byte decides.

-- a byte that begins neither a blank, a word, a number nor a quoted name
pub record IsOther (b : ℕ) (bytes : List ℕ) : Type 0 where
  pub blank : is_blank b bytes ≡ false
  pub word : begins_word b ≡ false
  pub digit : is_digit b ≡ false
  pub quote : (b == 34) ≡ false

word_not_blank : (b : ℕ) (bytes : List ℕ) → begins_word b ≡ true → is_blank b bytes ≡ false
word_not_blank b bytes w = grind (arith, nat_tests)

digit_not_blank : (b : ℕ) (bytes : List ℕ) → is_digit b ≡ true → is_blank b bytes ≡ false
digit_not_blank b bytes d = grind (arith, nat_tests)

pub word_no_quote : (b : ℕ) → begins_word b ≡ true → (b == 34) ≡ false
word_no_quote b w = grind (arith, nat_tests)

pub digit_no_quote : (b : ℕ) → is_digit b ≡ true → (b == 34) ≡ false
digit_no_quote b d = grind (arith, nat_tests)

pub digit_begins_no_word : (b : ℕ) → is_digit b ≡ true → begins_word b ≡ false
digit_begins_no_word b d = grind (arith, nat_tests)

pub long_is_other : (b c : ℕ) (bytes : List ℕ) → is_long_sign b c ≡ true → IsOther b bytes
long_is_other b c bytes e = record {
  blank = grind (arith, nat_tests);
  word = grind (arith, nat_tests);
  digit = grind (arith, nat_tests);
  quote = grind (arith, nat_tests);
}

pub short_is_other : (b : ℕ) (bytes : List ℕ) → is_short_sign b ≡ true → IsOther b bytes
short_is_other b bytes e = record {
  blank = grind (arith, nat_tests);
  word = grind (arith, nat_tests);
  digit = grind (arith, nat_tests);
  quote = grind (arith, nat_tests);
}

pub front_word : (b : ℕ) (bytes : List ℕ) → begins_word b ≡ true → front_from b bytes ≡ Spelling (word_length bytes + 1)
front_word b bytes w =
    ap (λ t. cond t Blank (cond (begins_word b) (Spelling (word_length bytes + 1)) (cond (is_digit b)
    (Spelling (number_length b bytes + 1)) (cond (b == 34) (name_from 0 bytes) (sign_from b bytes)))))
    (word_not_blank b bytes w)
    ∙ ap (λ t. cond t (Spelling (word_length bytes + 1)) (cond (is_digit b) (Spelling (number_length b bytes + 1))
    (cond (b == 34) (name_from 0 bytes) (sign_from b bytes)))) w

pub front_number : (b : ℕ) (bytes : List ℕ) → is_digit b ≡ true
    → front_from b bytes ≡ Spelling (number_length b bytes + 1)
front_number b bytes d =
    ap (λ t. cond t Blank (cond (begins_word b) (Spelling (word_length bytes + 1)) (cond (is_digit b)
    (Spelling (number_length b bytes + 1)) (cond (b == 34) (name_from 0 bytes) (sign_from b bytes)))))
    (digit_not_blank b bytes d)
    ∙ ap (λ t. cond t (Spelling (word_length bytes + 1))
    (cond (is_digit b) (Spelling (number_length b bytes + 1)) (cond (b == 34) (name_from 0 bytes) (sign_from b bytes))))
    (digit_begins_no_word b d)
    ∙ ap (λ t. cond t (Spelling (number_length b bytes + 1)) (cond (b == 34) (name_from 0 bytes) (sign_from b bytes))) d

front_other : (b : ℕ) (bytes : List ℕ) → IsOther b bytes → front_from b bytes ≡ sign_from b bytes
front_other b bytes other =
    ap (λ t. cond t Blank (cond (begins_word b) (Spelling (word_length bytes + 1)) (cond (is_digit b)
    (Spelling (number_length b bytes + 1)) (cond (b == 34) (name_from 0 bytes) (sign_from b bytes))))) other.blank
    ∙ ap (λ t. cond t (Spelling (word_length bytes + 1)) (cond (is_digit b) (Spelling (number_length b bytes + 1))
    (cond (b == 34) (name_from 0 bytes) (sign_from b bytes)))) other.word
    ∙ ap (λ t. cond t (Spelling (number_length b bytes + 1)) (cond (b == 34) (name_from 0 bytes) (sign_from b bytes)))
    other.digit
    ∙ ap (λ t. cond t (name_from 0 bytes) (sign_from b bytes)) other.quote

-- 2. How far a token goes on.

name_byte_parts : (n q : Bool) → (n && not q) ≡ true → (q ≡ false) × (n ≡ true)
name_byte_parts true true e = cc e
name_byte_parts true false e = (refl, refl)
name_byte_parts false q e = cc e

few_before : (read size : ℕ) → read + size + 1 ≤ longest_name → nat_lt read longest_name ≡ true
few_before read size h = let small : read < longest_name = omega (arith, h) in grind (arith, nat_tests)

pub name_reads : (name : List ℕ) (read : ℕ) (rest : List ℕ) → list_all is_name_byte name ≡ true
    → read + length name ≤ longest_name → 0 < read + length name
    → name_from read (name ++ 34 ∷ rest) ≡ Spelling (read + length name + 2)
name_reads [] read rest e short some =
    let z : (read == 0) ≡ false = grind (arith, nat_tests) in
    let n : read + 2 ≡ read + length {A = ℕ} [] + 2 = omega arith in
    ap (λ t. cond t Strange (Spelling (read + 2))) z ∙ ap (λ k. Spelling k) n
name_reads (b ∷ name) read rest e short some =
    let parts = and_parts (is_name_byte b) (list_all is_name_byte name) e in
    let byte = name_byte_parts (in_name b) (b == 34) parts.0 in
    let few : nat_lt read longest_name ≡ true = few_before read (length name) (omega (arith, short)) in
    let n : read + 1 + length name + 2 ≡ read + length (b ∷ name) + 2 = omega arith in
    ap (λ t. cond t (cond (read == 0) Strange (Spelling (read + 2)))
    (cond (in_name b && nat_lt read longest_name) (name_from (read + 1) (name ++ 34 ∷ rest)) Strange)) byte.0
    ∙ ap (λ t. cond (t && nat_lt read longest_name) (name_from (read + 1) (name ++ 34 ∷ rest)) Strange) byte.1
    ∙ ap (λ t. cond t (name_from (read + 1) (name ++ 34 ∷ rest)) Strange) few
    ∙ name_reads name (read + 1) rest parts.1 (omega (arith, short)) (omega arith)
    ∙ ap (λ k. Spelling k) n

word_as_long : (bytes rest : List ℕ) → list_all in_word bytes ≡ true → length bytes ≤ word_length (bytes ++ rest)
word_as_long [] rest a = omega arith
word_as_long (b ∷ bytes) rest a =
    let parts = and_parts (in_word b) (list_all in_word bytes) a in
    let more = word_as_long bytes rest parts.1 in
    let e : word_length (b ∷ (bytes ++ rest)) ≡ word_length (bytes ++ rest) + 1 =
    ap (λ t. cond t (word_length (bytes ++ rest) + 1) 0) parts.0 in
    omega (arith, more, e)

number_as_long : (before : ℕ) (bytes rest : List ℕ) → go_on_number before bytes ≡ true
    → length bytes ≤ number_length before (bytes ++ rest)
number_as_long before [] rest a = omega arith
number_as_long before (b ∷ bytes) rest a =
    let parts = and_parts (in_number before b) (go_on_number b bytes) a in
    let more = number_as_long b bytes rest parts.1 in
    let e : number_length before (b ∷ (bytes ++ rest)) ≡ number_length b (bytes ++ rest) + 1 =
    ap (λ t. cond t (number_length b (bytes ++ rest) + 1) 0) parts.0 in
    omega (arith, more, e)

-- 3. A spelling at the front.

-- before rest a token stands, at least as long as the spelling
pub record IsMet (spelling rest : List ℕ) : Type 0 where
  pub first : ℕ
  pub others : List ℕ
  pub whole : spelling ≡ first ∷ others
  pub count : ℕ
  pub front : front_from first (others ++ rest) ≡ Spelling count
  pub enough : length spelling ≤ count

-- a sign of one byte, or one of two that it begins
sign_count : (b : ℕ) (rest : List ℕ) → is_short_sign b ≡ true
    → (count : ℕ) × (sign_from b rest ≡ Spelling count) × (1 ≤ count)
sign_count b [] e = (1, ap (λ t. cond t (Spelling 1) Strange) e, omega arith)
sign_count b (c ∷ rest) e = by_test (is_long_sign b c)
  where
    by_test : (t : Bool) → (count : ℕ) × (cond t (Spelling 2) (sign_alone b) ≡ Spelling count) × (1 ≤ count)
    by_test true = (2, refl, omega arith)
    by_test false = (1, ap (λ t. cond t (Spelling 1) Strange) e, omega arith)

pub met : (spelling : List ℕ) → IsSpelling spelling → (rest : List ℕ) → IsMet spelling rest
met _ (word b bytes w a) rest = record {
  first = b;
  others = bytes;
  whole = refl;
  count = word_length (bytes ++ rest) + 1;
  front = front_word b (bytes ++ rest) w;
  enough = omega (arith, word_as_long bytes rest a);
}
met _ (number b bytes d a) rest = record {
  first = b;
  others = bytes;
  whole = refl;
  count = number_length b (bytes ++ rest) + 1;
  front = front_number b (bytes ++ rest) d;
  enough = omega (arith, number_as_long b bytes rest a);
}
met _ (quoted_name name is) rest = record {
  first = 34;
  others = name ++ 34 ∷ [];
  whole = refl;
  count = 0 + length name + 2;
  front = ap (λ t. name_from 0 t) (append_assoc name (34 ∷ []) rest)
      ∙ name_reads name 0 rest is.bytes (omega (arith, is.short)) (omega (arith, is.some));
  enough = omega (arith, length-append name (34 ∷ []));
}
met _ (long_sign b c e) rest = record {
  first = b;
  others = c ∷ [];
  whole = refl;
  count = 2;
  front = front_other b (c ∷ rest) (long_is_other b c (c ∷ rest) e) ∙ ap (λ t. cond t (Spelling 2) (sign_alone b)) e;
  enough = omega arith;
}
met _ (short_sign b e) rest =
    let sign = sign_count b rest e in
    record {
      first = b;
      others = [];
      whole = refl;
      count = sign.0;
      front = front_other b rest (short_is_other b rest e) ∙ sign.1;
      enough = omega (arith, sign.2);
    }
