-- What a view has seen, through each step of its own and of others.
use Rattle.std.proofs.Common.{◌≡◌, ◌≢◌, ℕ, zero, suc, ◌+◌, ◌<◌, ◌≤◌, Bool, true, false, List, [], ◌∷◌, length, set}
use Rattle.std.proofs.Common.{arith, refl, sym, ap, ◌∙◌, subst, inl, inr, ◌⊎◌, le_refl, length-set}
use Rattle.std.specs.Prelude.{slice_index, nat_lt, if◌then◌else◌}
use Rattle.std.proofs.lemmas.Bool.{cases_eq}
use Rattle.std.proofs.lemmas.Bool.Decides.{nat_tests}
use Rattle.std.proofs.lemmas.List.{get_or-set_same, get_or-set_other}
use Rattle.game_model.specs.Query.{Query, states, is_goal}
use Rattle.game_model.specs.Limits.{unit}
use Rattle.step_core.specs.Word.{value_in, value_at, greater_words}
use Rattle.step_core.specs.Sound.{Sees}

pub value_at-here : (words : List ℕ) (i word : ℕ) → i < length words → value_at (set words i word) i ≡ value_in word
value_at-here words i word inside = ap value_in (get_or-set_same words i word 0 inside)

pub value_at-else : (words : List ℕ) (i word s : ℕ) → s ≢ i → value_at (set words i word) s ≡ value_at words s
value_at-else words i word s other = ap value_in (get_or-set_other words i s word 0 other)

-- what was seen is nowhere above the words
pub Sees-below : (q : Query) (words seen : List ℕ) → Sees q words seen → (s : ℕ) → value_at seen s ≤ value_at words s
Sees-below q words seen h s = elim (h.each s) [
  | inl same ↦ subst (λ n. value_in (slice_index seen s) ≤ value_in n) (sym same) (le_refl (value_at seen s))
  | inr less ↦ omega arith
]

-- a raised word is no smaller
pub value_at-rises : (words : List ℕ) (i word : ℕ) → i < length words → value_at words i ≤ value_in word → (s : ℕ)
    → value_at words s ≤ value_at (set words i word) s
value_at-rises words i word inside up s = elim (cases_eq s i) [
  | inl same ↦ subst (λ n. value_at words n ≤ value_at (set words i word) n) (sym same)
      (omega (arith, value_at-here words i word inside))
  | inr other ↦ omega (arith, value_at-else words i word s other)
]

-- another's exchange
pub Sees-raised : (q : Query) (words seen : List ℕ) (i word : ℕ) → i < length words → value_at words i < value_in word
    → Sees q words seen → Sees q (set words i word) seen
Sees-raised q words seen i word inside up h = record {
  as_many = h.as_many;
  each = λ s. elim (cases_eq s i) [
    | inl same ↦ inr (subst (λ n. value_at seen n < value_at (set words i word) n) (sym same)
        (omega (arith, value_at-here words i word inside, Sees-below q words seen h i)))
    | inr other ↦ elim (h.each s) [
      | inl equal ↦ inl (get_or-set_other words i s word 0 other ∙ equal)
      | inr less ↦ inr (omega (arith, less, value_at-else words i word s other))
    ]
  ];
  goals = h.goals;
}

-- a look at the word
pub Sees-looked : (q : Query) (words seen : List ℕ) (i : ℕ) → i < states q
    → ((s : ℕ) → s < states q → is_goal q s ≡ true → value_at words s ≡ unit) → Sees q words seen
    → Sees q words (set seen i (slice_index words i))
Sees-looked q words seen i inside tops h =
    let there : i < length seen = subst (λ n. i < n) (sym h.as_many) inside in
    let word : ℕ = slice_index words i in record {
      as_many = length-set seen i word ∙ h.as_many;
      each = λ s. elim (cases_eq s i) [
        | inl same ↦ inl (subst (λ n. slice_index words n ≡ slice_index (set seen i word) n) (sym same)
            (sym (get_or-set_same seen i word 0 there)))
        | inr other ↦ elim (h.each s) [
          | inl equal ↦ inl (equal ∙ sym (get_or-set_other seen i s word 0 other))
          | inr less ↦ inr (omega (arith, less, value_at-else seen i word s other))
        ]
      ];
      goals = λ s l goal. elim (cases_eq s i) [
        | inl same ↦ subst (λ n. value_at (set seen i word) n ≡ unit) (sym same)
            (value_at-here seen i word there ∙ tops i inside (subst (λ n. is_goal q n ≡ true) same goal))
        | inr other ↦ value_at-else seen i word s other ∙ h.goals s l goal
      ];
    }

-- the greater of two words is one of them, and no smaller than either
pub record IsGreater (greater x y : ℕ) : Type 0 where
  pub one : (greater ≡ x) ⊎ (greater ≡ y)
  pub first : value_in x ≤ value_in greater
  pub second : value_in y ≤ value_in greater

greater-is : (x y : ℕ) (less : Bool) → nat_lt (value_in x) (value_in y) ≡ less → IsGreater (if less then y else x) x y
greater-is x y true is = record {
  one = inr refl;
  first = (let h : value_in x < value_in y = grind (arith, nat_tests) in omega arith);
  second = le_refl (value_in y);
}
greater-is x y false is = record {
  one = inl refl;
  first = le_refl (value_in x);
  second = (let h : value_in y ≤ value_in x = grind (arith, nat_tests) in h);
}

pub greater_words-at : (xs ys : List ℕ) (s : ℕ) → length xs ≡ length ys
    → IsGreater (slice_index (greater_words xs ys) s) (slice_index xs s) (slice_index ys s)
greater_words-at [] [] s same = record { one = inl refl; first = le_refl 0; second = le_refl 0 }
greater_words-at [] (y ∷ ys) s same = absurd (omega arith)
greater_words-at (x ∷ xs) [] s same = absurd (omega arith)
greater_words-at (x ∷ xs) (y ∷ ys) zero same = greater-is x y (nat_lt (value_in x) (value_in y)) refl
greater_words-at (x ∷ xs) (y ∷ ys) (suc s) same = greater_words-at xs ys s (omega arith)

pub length-greater_words : (xs ys : List ℕ) → length xs ≡ length ys → length (greater_words xs ys) ≡ length xs
length-greater_words [] [] same = refl
length-greater_words [] (y ∷ ys) same = refl
length-greater_words (x ∷ xs) [] same = refl
length-greater_words (x ∷ xs) (y ∷ ys) same = let rest = length-greater_words xs ys (omega arith) in omega arith

pub greater_words-is : (xs ys : List ℕ) (s : ℕ) → length xs ≡ length ys
    → slice_index (greater_words xs ys) s ≡ (if nat_lt (value_in (slice_index xs s)) (value_in (slice_index ys s))
    then slice_index ys s else slice_index xs s)
greater_words-is [] [] s same = refl
greater_words-is [] (y ∷ ys) s same = absurd (omega arith)
greater_words-is (x ∷ xs) [] s same = absurd (omega arith)
greater_words-is (x ∷ xs) (y ∷ ys) zero same = refl
greater_words-is (x ∷ xs) (y ∷ ys) (suc s) same = greater_words-is xs ys s (omega arith)

-- a loop that takes the greater words, one more
module _ (xs ys words : List ℕ) (i : ℕ) (inside : i < length words) (same : length xs ≡ length ys)
    (taken : (s : ℕ) → s < i → slice_index words s ≡ slice_index (greater_words xs ys) s)
    (rest : (s : ℕ) → i ≤ s → slice_index words s ≡ slice_index xs s) where
  pub taken-more : (new : List ℕ) → ((s : ℕ) → s ≢ i → slice_index new s ≡ slice_index words s)
      → slice_index new i ≡ slice_index (greater_words xs ys) i → (s : ℕ) → s < i + 1
      → slice_index new s ≡ slice_index (greater_words xs ys) s
  taken-more new others here s below = elim (cases_eq s i) [
    | inl equal ↦ subst (λ n. slice_index new n ≡ slice_index (greater_words xs ys) n) (sym equal) here
    | inr other ↦ others s other ∙ taken s (omega arith)
  ]

  greater-there : value_in (slice_index words i) < value_in (slice_index ys i)
      → slice_index (greater_words xs ys) i ≡ slice_index ys i
  greater-there less =
      let less' : value_in (slice_index xs i) < value_in (slice_index ys i) =
      subst (λ n. value_in n < value_in (slice_index ys i)) (rest i (omega arith)) less in
      let test : nat_lt (value_in (slice_index xs i)) (value_in (slice_index ys i)) ≡ true = grind (arith, nat_tests) in
      greater_words-is xs ys i same ∙ ap (λ (b : Bool). if b then slice_index ys i else slice_index xs i) test

  pub taken-other : value_in (slice_index words i) < value_in (slice_index ys i) → (s : ℕ) → s < i + 1
      → slice_index (set words i (slice_index ys i)) s ≡ slice_index (greater_words xs ys) s
  taken-other less = taken-more (set words i (slice_index ys i))
      (λ s other. get_or-set_other words i s (slice_index ys i) 0 other)
      (get_or-set_same words i (slice_index ys i) 0 inside ∙ sym (greater-there less))

  pub rest-other : (s : ℕ) → i + 1 ≤ s → slice_index (set words i (slice_index ys i)) s ≡ slice_index xs s
  rest-other s above = get_or-set_other words i s (slice_index ys i) 0 (λ equal. omega arith) ∙ rest s (omega arith)

  pub taken-own : value_in (slice_index ys i) ≤ value_in (slice_index words i) → (s : ℕ) → s < i + 1
      → slice_index words s ≡ slice_index (greater_words xs ys) s
  taken-own more =
      let more' : value_in (slice_index ys i) ≤ value_in (slice_index xs i) =
      subst (λ n. value_in (slice_index ys i) ≤ value_in n) (rest i (omega arith)) more in
      let test : nat_lt (value_in (slice_index xs i)) (value_in (slice_index ys i)) ≡ false =
      grind (arith, nat_tests) in
      taken-more words (λ s other. refl) (rest i (omega arith)
      ∙ sym (greater_words-is xs ys i same ∙ ap (λ (b : Bool). if b then slice_index ys i else slice_index xs i) test))

-- two views joined
pub Sees-both : (q : Query) (words xs ys : List ℕ) → Sees q words xs → Sees q words ys
    → Sees q words (greater_words xs ys)
Sees-both q words xs ys h k =
    let same : length xs ≡ length ys = h.as_many ∙ sym k.as_many in record {
      as_many = length-greater_words xs ys same ∙ h.as_many;
      each = λ s. elim (greater_words-at xs ys s same).one [
        | inl is ↦ subst (λ n. (slice_index words s ≡ n) ⊎ (value_in n < value_at words s)) (sym is) (h.each s)
        | inr is ↦ subst (λ n. (slice_index words s ≡ n) ⊎ (value_in n < value_at words s)) (sym is) (k.each s)
      ];
      goals = λ s l goal. elim (greater_words-at xs ys s same).one [
        | inl is ↦ ap value_in is ∙ h.goals s l goal
        | inr is ↦ ap value_in is ∙ k.goals s l goal
      ];
    }
