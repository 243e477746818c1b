-- A token that is found has a spelling, and the longest.
use Rattle.std.proofs.Common.{◌≡◌, ◌∙◌, ◌+◌, ◌<◌, ◌≤◌, inl, inr, ℕ, suc, List, [], ◌∷◌, ◌++◌, length, take, drop, Bool}
use Rattle.std.proofs.Common.{true, false, cond, not, refl, ap, sym, subst, arith, nat_lt}
use Rattle.std.proofs.lemmas.Bool.{and_from, and_parts}
use Rattle.std.specs.Prelude.{◌==◌, ◌&&◌}
use Rattle.std.specs.List.{list_all}
use Rattle.std.proofs.Math.Seq.{take-append-add}
use Rattle.std.proofs.lemmas.List.{length-append, length-take-le, take-append-drop}
use Rattle.std.proofs.lemmas.Bool.Decides.{nat_tests}
use Rattle.text_lines.specs.Text.{is_digit}
use Rattle.formula_tokens.specs.declared.front.Front.TheVariants.{Blank, Spelling, Strange}
use Rattle.formula_tokens.specs.TokenRules.{go_on_number, is_name_byte, IsSpelling, word, number, quoted_name}
use Rattle.formula_tokens.specs.TokenRules.{long_sign}
use Rattle.formula_tokens.specs.TokenRules.{short_sign, IsLongest}
use Rattle.formula_tokens.specs.Limits.{longest_name}
use Rattle.formula_tokens.specs.Tokens.{front_from, begins_word, in_word, in_number, in_name, is_blank, is_long_sign}
use Rattle.formula_tokens.specs.Tokens.{is_short_sign, word_length, number_length, name_from, sign_from}
use Rattle.formula_tokens.specs.Tokens.{short_sign as sign_alone}
use Rattle.formula_tokens.proofs.Spans.{chosen}
use Rattle.formula_tokens.proofs.Fronts.{met}

-- 1. Each kind of token.

-- so many bytes are cut off as a token
pub record IsToken (b : ℕ) (bytes : List ℕ) (count : ℕ) : Type 0 where
  pub spelled : IsSpelling (take count (b ∷ bytes))
  pub some : 0 < count
  pub within : count ≤ length bytes + 1

word_front : (bytes : List ℕ) → list_all in_word (take (word_length bytes) bytes) ≡ true
word_front [] = refl
word_front (b ∷ bytes) = by_test (word_front bytes) (in_word b) refl
  where
    by_test : list_all in_word (take (word_length bytes) bytes) ≡ true → (t : Bool) → in_word b ≡ t
        → list_all in_word (take (cond t (word_length bytes + 1) 0) (b ∷ bytes)) ≡ true
    by_test more false e = refl
    by_test more true e =
        let k : word_length bytes + 1 ≡ suc (word_length bytes) = omega arith in
        let P : ℕ → Type 0 = λ n. list_all in_word (take n (b ∷ bytes)) ≡ true in
        subst P (sym k) (and_from (in_word b) (list_all in_word (take (word_length bytes) bytes)) e more)

number_front : (before : ℕ) (bytes : List ℕ) → go_on_number before (take (number_length before bytes) bytes) ≡ true
number_front before [] = refl
number_front before (b ∷ bytes) = by_test (number_front b bytes) (in_number before b) refl
  where
    by_test : go_on_number b (take (number_length b bytes) bytes) ≡ true → (t : Bool) → in_number before b ≡ t
        → go_on_number before (take (cond t (number_length b bytes + 1) 0) (b ∷ bytes)) ≡ true
    by_test more false e = refl
    by_test more true e =
        let k : number_length b bytes + 1 ≡ suc (number_length b bytes) = omega arith in
        let P : ℕ → Type 0 = λ n. go_on_number before (take n (b ∷ bytes)) ≡ true in
        subst P (sym k) (and_from (in_number before b) (go_on_number b (take (number_length b bytes) bytes)) e more)

test_within : (t : Bool) (n most : ℕ) → n ≤ most → cond t (n + 1) 0 ≤ most + 1
test_within true n most h = omega (arith, h)
test_within false n most h = omega arith

word_within : (bytes : List ℕ) → word_length bytes ≤ length bytes
word_within [] = omega arith
word_within (b ∷ bytes) = omega (arith, test_within (in_word b) (word_length bytes) (length bytes) (word_within bytes))

number_within : (before : ℕ) (bytes : List ℕ) → number_length before bytes ≤ length bytes
number_within before [] = omega arith
number_within before (b ∷ bytes) =
    omega (arith, test_within (in_number before b) (number_length b bytes) (length bytes) (number_within b bytes))

counted : (b : ℕ) (bytes : List ℕ) (n count : ℕ) → n ≡ count → IsToken b bytes n → IsToken b bytes count
counted b bytes n count e t = let P : ℕ → Type 0 = λ k. IsToken b bytes k in subst P e t

word_token : (b : ℕ) (bytes : List ℕ) (count : ℕ) → begins_word b ≡ true → word_length bytes + 1 ≡ count
    → IsToken b bytes count
word_token b bytes count w size =
    counted b bytes (suc (word_length bytes)) count (omega (arith, size))
    (record {
      spelled = word b (take (word_length bytes) bytes) w (word_front bytes);
      some = omega arith;
      within = omega (arith, word_within bytes);
    })

number_token : (b : ℕ) (bytes : List ℕ) (count : ℕ) → is_digit b ≡ true → number_length b bytes + 1 ≡ count
    → IsToken b bytes count
number_token b bytes count d size =
    counted b bytes (suc (number_length b bytes)) count (omega (arith, size))
    (record {
      spelled = number b (take (number_length b bytes) bytes) d (number_front b bytes);
      some = omega arith;
      within = omega (arith, number_within b bytes);
    })

-- the name at the front of what stands behind a `"`, of which so many bytes were read before
record NameAt (read : ℕ) (bytes : List ℕ) (count : ℕ) : Type 0 where
  pub name : List ℕ
  pub rest : List ℕ
  pub whole : bytes ≡ name ++ 34 ∷ rest
  pub size : count ≡ read + length name + 2
  pub is_name : list_all is_name_byte name ≡ true
  pub some : 0 < read + length name
  pub short : read + length name ≤ longest_name

quote_is : (b : ℕ) → (b == 34) ≡ true → b ≡ 34
quote_is b e = grind (arith, nat_tests)

some_read : (read : ℕ) → (read == 0) ≡ false → 0 < read
some_read read e = grind (arith, nat_tests)

few_read : (read : ℕ) → nat_lt read longest_name ≡ true → read + 1 ≤ longest_name
few_read read e = let h : read < longest_name = grind (arith, nat_tests) in omega (arith, h)

in_front_of_name : (b : ℕ) (read count : ℕ) (bytes : List ℕ) → (b == 34) ≡ false → in_name b ≡ true
    → NameAt (read + 1) bytes count → NameAt read (b ∷ bytes) count
in_front_of_name b read count bytes q n at = record {
  name = b ∷ at.name;
  rest = at.rest;
  whole = ap (λ bs. b ∷ bs) at.whole;
  size = omega (arith, at.size);
  is_name = and_from (is_name_byte b) (list_all is_name_byte at.name)
      (and_from (in_name b) (not (b == 34)) n (ap not q)) at.is_name;
  some = omega arith;
  short = omega (arith, at.short);
}

name_front : (bytes : List ℕ) (read count : ℕ) → read ≤ longest_name → name_from read bytes ≡ Spelling count
    → NameAt read bytes count
name_front [] read count h e = cc e
name_front (b ∷ bytes) read count h e =
    elim (chosen (b == 34) (cond (read == 0) Strange (Spelling (read + 2)))
    (cond (in_name b && nat_lt read longest_name) (name_from (read + 1) bytes) Strange) (Spelling count) e) [
      | inl q ↦ elim (chosen (read == 0) Strange (Spelling (read + 2)) (Spelling count) q.1) [
        | inl z ↦ cc z.1
        | inr z ↦
            let size : read + 2 ≡ count = cc z.1 in
            record {
              name = [];
              rest = bytes;
              whole = ap (λ c. c ∷ bytes) (quote_is b q.0);
              size = omega (arith, size);
              is_name = refl;
              some = omega (arith, some_read read z.0);
              short = omega (arith, h);
            }
      ]
      | inr q ↦ elim (chosen (in_name b && nat_lt read longest_name) (name_from (read + 1) bytes) Strange
          (Spelling count) q.1) [
            | inr n ↦ cc n.1
            | inl n ↦
                let parts = and_parts (in_name b) (nat_lt read longest_name) n.0 in
                in_front_of_name b read count bytes q.0 parts.0
                (name_front bytes (read + 1) count (few_read read parts.1) n.1)
          ]
    ]

name_token : (b : ℕ) (bytes : List ℕ) (count : ℕ) → (b == 34) ≡ true → name_from 0 bytes ≡ Spelling count
    → IsToken b bytes count
name_token b bytes count q e =
    let at = name_front bytes 0 count (omega arith) e in
    let size : count ≡ suc (length at.name + 1) = omega (arith, at.size) in
    let whole : take count (b ∷ bytes) ≡ 34 ∷ (at.name ++ 34 ∷ []) =
    ap (λ n. take n (b ∷ bytes)) size ∙ ap (λ bs. b ∷ take (length at.name + 1) bs) at.whole ∙ ap (λ bs. b ∷ bs)
    (take-append-add at.name (34 ∷ at.rest) 1) ∙ ap (λ c. c ∷ (at.name ++ 34 ∷ [])) (quote_is b q) in
    let P : List ℕ → Type 0 = λ s. IsSpelling s in
    record {
      spelled = subst P (sym whole) (quoted_name at.name
          (record { bytes = at.is_name; some = omega (arith, at.some); short = omega (arith, at.short) }));
      some = omega (arith, at.size);
      within = omega (arith, at.size, ap length at.whole, length-append at.name (34 ∷ at.rest));
    }

one_byte : (b : ℕ) (bytes : List ℕ) (count : ℕ) → sign_alone b ≡ Spelling count → IsToken b bytes count
one_byte b bytes count e = elim (chosen (is_short_sign b) (Spelling 1) Strange (Spelling count) e) [
  | inl t ↦ counted b bytes 1 count (cc t.1)
      (record { spelled = short_sign b t.0; some = omega arith; within = omega arith })
  | inr t ↦ cc t.1
]

sign_token : (b : ℕ) (bytes : List ℕ) (count : ℕ) → sign_from b bytes ≡ Spelling count → IsToken b bytes count
sign_token b [] count e = one_byte b [] count e
sign_token b (c ∷ bytes) count e = elim (chosen (is_long_sign b c) (Spelling 2) (sign_alone b) (Spelling count) e) [
  | inl t ↦ counted b (c ∷ bytes) 2 count (cc t.1)
      (record { spelled = long_sign b c t.0; some = omega arith; within = omega arith })
  | inr t ↦ one_byte b (c ∷ bytes) count t.1
]

pub token_found : (b : ℕ) (bytes : List ℕ) (count : ℕ) → front_from b bytes ≡ Spelling count → IsToken b bytes count
token_found b bytes count e =
    elim (chosen (is_blank b bytes) Blank (cond (begins_word b) (Spelling (word_length bytes + 1))
    (cond (is_digit b) (Spelling (number_length b bytes + 1)) (cond (b == 34) (name_from 0 bytes) (sign_from b bytes))))
    (Spelling count) e) [
      | inl t ↦ cc t.1
      | inr t ↦ elim (chosen (begins_word b) (Spelling (word_length bytes + 1)) (cond (is_digit b)
          (Spelling (number_length b bytes + 1)) (cond (b == 34) (name_from 0 bytes) (sign_from b bytes)))
          (Spelling count) t.1) [
            | inl w ↦ word_token b bytes count w.0 (cc w.1)
            | inr w ↦ elim (chosen (is_digit b) (Spelling (number_length b bytes + 1))
                (cond (b == 34) (name_from 0 bytes) (sign_from b bytes)) (Spelling count) w.1) [
                  | inl d ↦ number_token b bytes count d.0 (cc d.1)
                  | inr d ↦ elim (chosen (b == 34) (name_from 0 bytes) (sign_from b bytes) (Spelling count) d.1) [
                    | inl q ↦ name_token b bytes count q.0 q.1
                    | inr q ↦ sign_token b bytes count q.1
                  ]
                ]
          ]
    ]

-- 2. The longest spelling.

same_front : (b c : ℕ) (bytes others : List ℕ) → b ∷ bytes ≡ c ∷ others → front_from b bytes ≡ front_from c others
same_front b c bytes others e =
    let first : b ≡ c = cc in
    let rest : bytes ≡ others = cc in
    ap (λ n. front_from n bytes) first ∙ ap (λ t. front_from c t) rest

-- what is found is the longest
pub found_longest : (b : ℕ) (bytes : List ℕ) (count : ℕ) → front_from b bytes ≡ Spelling count
    → IsLongest (take count (b ∷ bytes)) (drop count (b ∷ bytes))
found_longest b bytes count e =
    let t = token_found b bytes count e in
    let size : length (take count (b ∷ bytes)) ≡ count = length-take-le count (b ∷ bytes) (omega (arith, t.within)) in
    record {
      is = t.spelled;
      longest = λ other behind same s.
          let m = met other s behind in
          let here : m.first ∷ (m.others ++ behind) ≡ b ∷ bytes =
          ap (λ o. o ++ behind) (sym m.whole) ∙ sym same ∙ take-append-drop count (b ∷ bytes) in
          let counts : Spelling m.count ≡ Spelling count =
          sym m.front ∙ same_front m.first b (m.others ++ behind) bytes here ∙ e in
          let one : m.count ≡ count = cc counts in
          omega (arith, m.enough, one, size);
    }

-- the spelling is the token at the front
pub record IsFound (spelling rest : List ℕ) : Type 0 where
  pub first : ℕ
  pub others : List ℕ
  pub whole : spelling ≡ first ∷ others
  pub front : front_from first (others ++ rest) ≡ Spelling (length others + 1)

-- the longest is found
pub longest_found : (spelling rest : List ℕ) → IsLongest spelling rest → IsFound spelling rest
longest_found spelling rest l =
    let m = met spelling l.is rest in
    let text = m.first ∷ (m.others ++ rest) in
    let t = token_found m.first (m.others ++ rest) m.count m.front in
    let size : length (take m.count text) ≡ m.count = length-take-le m.count text (omega (arith, t.within)) in
    let split : spelling ++ rest ≡ take m.count text ++ drop m.count text =
    ap (λ s. s ++ rest) m.whole ∙ sym (take-append-drop m.count text) in
    let most : length (take m.count text) ≤ length spelling =
    l.longest (take m.count text) (drop m.count text) split t.spelled in
    let count : m.count ≡ length m.others + 1 = omega (arith, m.enough, size, most, ap length m.whole) in
    record { first = m.first; others = m.others; whole = m.whole; front = m.front ∙ ap (λ n. Spelling n) count }
