-- No blank stands in a spelling, so the longest spelling stays the longest where a blank follows.
use Rattle.std.proofs.Common.{◌≡◌, ◌∙◌, ◌⊎◌, inl, inr, ℕ, List, [], ◌∷◌, ◌++◌, Bool, true, false, not, refl, ap, sym}
use Rattle.std.proofs.Common.{arith, append_assoc}
use Rattle.std.proofs.lemmas.Bool.{and_from, and_parts}
use Rattle.std.specs.Prelude.{◌==◌, ◌||◌, ◌&&◌}
use Rattle.std.specs.List.{list_all}
use Rattle.std.proofs.lemmas.Bool.Decides.{nat_tests}
use Rattle.std.proofs.lemmas.List.Folds.{list_all-append}
use Rattle.text_lines.specs.Text.{is_digit}
use Rattle.formula_tokens.specs.Laws.{IsBlank, space, tab, line_feed, return_and_line_feed}
use Rattle.formula_tokens.specs.TokenRules.{go_on_number, is_name_byte, IsSpelling, word, number, quoted_name}
use Rattle.formula_tokens.specs.TokenRules.{long_sign}
use Rattle.formula_tokens.specs.TokenRules.{short_sign, IsLongest}
use Rattle.formula_tokens.specs.Tokens.{begins_word, in_word, in_number, is_long_sign, is_short_sign}

-- 1. No blank stands in a spelling.

abbrev is_no_blank : ℕ → Bool
is_no_blank b = not (b == 32 || b == 9 || b == 10 || b == 13)

all_through : (p q : ℕ → Bool) → ((b : ℕ) → p b ≡ true → q b ≡ true) → (bytes : List ℕ) → list_all p bytes ≡ true
    → list_all q bytes ≡ true
all_through p q h [] a = refl
all_through p q h (b ∷ bytes) a =
    let parts = and_parts (p b) (list_all p bytes) a in
    and_from (q b) (list_all q bytes) (h b parts.0) (all_through p q h bytes parts.1)

no_blank_begins_word : (b : ℕ) → begins_word b ≡ true → is_no_blank b ≡ true
no_blank_begins_word b e = grind (arith, nat_tests)

no_blank_in_word : (b : ℕ) → in_word b ≡ true → is_no_blank b ≡ true
no_blank_in_word b e = grind (arith, nat_tests)

no_blank_digit : (b : ℕ) → is_digit b ≡ true → is_no_blank b ≡ true
no_blank_digit b e = grind (arith, nat_tests)

no_blank_in_number : (before b : ℕ) → in_number before b ≡ true → is_no_blank b ≡ true
no_blank_in_number before b e = grind (arith, nat_tests)

no_blank_in_name : (b : ℕ) → is_name_byte b ≡ true → is_no_blank b ≡ true
no_blank_in_name b e = grind (arith, nat_tests)

no_blank_long : (b c : ℕ) → is_long_sign b c ≡ true → is_no_blank b ≡ true
no_blank_long b c e = grind (arith, nat_tests)

no_blank_behind : (b c : ℕ) → is_long_sign b c ≡ true → is_no_blank c ≡ true
no_blank_behind b c e = grind (arith, nat_tests)

no_blank_short : (b : ℕ) → is_short_sign b ≡ true → is_no_blank b ≡ true
no_blank_short b e = grind (arith, nat_tests)

no_blank_number : (before : ℕ) (bytes : List ℕ) → go_on_number before bytes ≡ true → list_all is_no_blank bytes ≡ true
no_blank_number before [] a = refl
no_blank_number before (b ∷ bytes) a =
    let parts = and_parts (in_number before b) (go_on_number b bytes) a in
    and_from (is_no_blank b) (list_all is_no_blank bytes) (no_blank_in_number before b parts.0)
    (no_blank_number b bytes parts.1)

no_blanks : (spelling : List ℕ) → IsSpelling spelling → list_all is_no_blank spelling ≡ true
no_blanks _ (word b bytes w a) = and_from (is_no_blank b) (list_all is_no_blank bytes) (no_blank_begins_word b w)
    (all_through in_word is_no_blank no_blank_in_word bytes a)
no_blanks _ (number b bytes d a) =
    and_from (is_no_blank b) (list_all is_no_blank bytes) (no_blank_digit b d) (no_blank_number b bytes a)
no_blanks _ (quoted_name name is) =
    list_all-append is_no_blank name (34 ∷ []) ∙ and_from (list_all is_no_blank name) true
    (all_through is_name_byte is_no_blank no_blank_in_name name is.bytes) refl
no_blanks _ (long_sign b c e) = and_from (is_no_blank b) (is_no_blank c && true) (no_blank_long b c e)
    (and_from (is_no_blank c) true (no_blank_behind b c e) refl)
no_blanks _ (short_sign b e) = and_from (is_no_blank b) true (no_blank_short b e) refl

-- 2. The longest spelling stays the longest where the rest ends earlier, or goes on behind a blank.

-- of two fronts of one list, the second ends within the first
record EndsIn (first second rest : List ℕ) : Type 0 where
  pub between : List ℕ
  pub whole : first ≡ second ++ between

-- or it goes on behind the first
record GoesOn (first rest second : List ℕ) : Type 0 where
  pub byte : ℕ
  pub bytes : List ℕ
  pub behind : List ℕ
  pub whole : second ≡ first ++ byte ∷ bytes
  pub rest_is : rest ≡ byte ∷ (bytes ++ behind)

two_fronts : (first rest second behind : List ℕ) → first ++ rest ≡ second ++ behind
    → EndsIn first second rest ⊎ GoesOn first rest second
two_fronts first rest [] behind e = inl (record { between = first; whole = refl })
two_fronts [] rest (b ∷ second) behind e =
    inr (record { byte = b; bytes = second; behind = behind; whole = refl; rest_is = e })
two_fronts (a ∷ first) rest (b ∷ second) behind e =
    let same : a ≡ b = cc in
    let more : first ++ rest ≡ second ++ behind = cc in
    elim (two_fronts first rest second behind more) [
      | inl t ↦ inl (record { between = t.between; whole = ap (λ c. c ∷ first) same ∙ ap (λ xs. b ∷ xs) t.whole })
      | inr t ↦ inr (record {
        byte = t.byte;
        bytes = t.bytes;
        behind = t.behind;
        whole = ap (λ xs. b ∷ xs) t.whole ∙ ap (λ c. c ∷ (first ++ t.byte ∷ t.bytes)) (sym same);
        rest_is = t.rest_is;
      })
    ]

pub earlier : (spelling rest more : List ℕ) → IsLongest spelling (rest ++ more) → IsLongest spelling rest
earlier spelling rest more l = record {
  is = l.is;
  longest = λ other behind same s. l.longest other (behind ++ more)
      (sym (append_assoc spelling rest more) ∙ ap (λ xs. xs ++ more) same ∙ append_assoc other behind more) s;
}

-- the text begins with a blank byte
pub record BeginsBlank (text : List ℕ) : Type 0 where
  pub byte : ℕ
  pub bytes : List ℕ
  pub whole : text ≡ byte ∷ bytes
  pub is : is_no_blank byte ≡ false

no_blank_beyond : (front : List ℕ) (b : ℕ) (bytes : List ℕ) → list_all is_no_blank (front ++ b ∷ bytes) ≡ true
    → is_no_blank b ≡ true
no_blank_beyond front b bytes a =
    let parts = and_parts (list_all is_no_blank front) (list_all is_no_blank (b ∷ bytes))
    (sym (list_all-append is_no_blank front (b ∷ bytes)) ∙ a) in
    (and_parts (is_no_blank b) (list_all is_no_blank bytes) parts.1).0

pub later : (spelling rest more : List ℕ) → BeginsBlank more → IsLongest spelling rest
    → IsLongest spelling (rest ++ more)
later spelling rest more begins l = record {
  is = l.is;
  longest = λ other behind same s.
      elim (two_fronts (spelling ++ rest) more other behind (append_assoc spelling rest more ∙ same)) [
        | inl t ↦ l.longest other t.between t.whole s
        | inr t ↦
            let both : t.byte ∷ (t.bytes ++ t.behind) ≡ begins.byte ∷ begins.bytes = sym t.rest_is ∙ begins.whole in
            let byte : t.byte ≡ begins.byte = cc in
            let yes : is_no_blank t.byte ≡ true = no_blank_beyond (spelling ++ rest) t.byte t.bytes
            (ap (list_all is_no_blank) (sym t.whole) ∙ no_blanks other s) in
            let no : is_no_blank t.byte ≡ false = ap is_no_blank byte ∙ begins.is in
            cc (yes, no)
      ];
}

pub begins_blank : (blank_ : List ℕ) → IsBlank blank_ → (back : List ℕ) → BeginsBlank (blank_ ++ back)
begins_blank _ space back = record { byte = 32; bytes = back; whole = refl; is = refl }
begins_blank _ tab back = record { byte = 9; bytes = back; whole = refl; is = refl }
begins_blank _ line_feed back = record { byte = 10; bytes = back; whole = refl; is = refl }
begins_blank _ return_and_line_feed back = record { byte = 13; bytes = 10 ∷ back; whole = refl; is = refl }
