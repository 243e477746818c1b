-- The places of items by their indices.
use Rattle.std.proofs.Common.{◌≡◌, ◌<◌, ◌≤◌, ◌+◌, ℕ, suc, Bool, true, false, cond, List, [], ◌∷◌, ◌++◌, length, get_or}
use Rattle.std.proofs.Common.{Option, Some, None, All, refl, sym, ap, ◌∙◌, subst, inl, inr, arith, eqb}
use Rattle.std.proofs.lemmas.Bool.{cases_Bool}
use Rattle.std.specs.Option.{option_map, option_and_then, IfSome}
use Rattle.std.proofs.lemmas.Bool.Decides.{nat_tests}
use Rattle.text_lines.specs.Text.{saturated}
use Rattle.label_lines.specs.Limits.{greatest_index}
use Rattle.label_lines.specs.Header.{Item, place_of}
use Rattle.label_lines.specs.Placed.{indices_of}

abbrev pub place_step : Item → List Item → ℕ → Bool → Option ℕ
place_step item items index v = cond v (Some 0) (option_map (λ k. k + 1) (place_of items index))

same_test : (a n : ℕ) → a ≤ greatest_index → eqb a (saturated n) ≡ eqb a n
same_test a n h = grind (arith, nat_tests)

pub place_of-saturated : (items : List Item) (n : ℕ) → All (λ (item : Item). item.index ≤ greatest_index) items
    → place_of items (saturated n) ≡ place_of items n
place_of-saturated [] n small = refl
place_of-saturated (item ∷ items) n small =
    ap (λ v. place_step item items (saturated n) v) (same_test item.index n (small 0 item (omega arith)))
    ∙ ap (λ p. cond (eqb item.index n) (Some 0) (option_map (λ k. k + 1) p))
    (place_of-saturated items n (λ k d lt. small (suc k) d (omega arith)))

pub place_in-whole : (items : List Item) (index : ℕ) (spelled : Option ℕ)
    → All (λ (item : Item). item.index ≤ greatest_index) items → Some index ≡ option_map saturated spelled
    → place_of items index ≡ option_and_then (place_of items) spelled
place_in-whole items index None small e = cc
place_in-whole items index (Some n) small e =
    let same : index ≡ saturated n = cc in
    ap (λ i. place_of items i) same ∙ place_of-saturated items n small

within_more : (p : Option ℕ) (n : ℕ) → IfSome p (λ k. k < n) → IfSome (option_map (λ k. k + 1) p) (λ k. k < suc n)
within_more None n h = tt
within_more (Some k) n h = omega arith

pub place_of-within : (items : List Item) (index : ℕ) → IfSome (place_of items index) (λ k. k < length items)
place_of-within [] index = tt
place_of-within (item ∷ items) index = elim (cases_Bool (eqb item.index index)) [
  | inl e ↦
      let P : Option ℕ → Type 0 = λ p. IfSome p (λ k. k < suc (length items)) in
      subst P (sym (ap (λ v. place_step item items index v) e)) (omega arith)
  | inr e ↦
      let P : Option ℕ → Type 0 = λ p. IfSome p (λ k. k < suc (length items)) in
      subst P (sym (ap (λ v. place_step item items index v) e))
      (within_more (place_of items index) (length items) (place_of-within items index))
]

pub place_of-push_other : (items : List Item) (item : Item) (index : ℕ) → eqb item.index index ≡ false
    → place_of (items ++ item ∷ []) index ≡ place_of items index
place_of-push_other [] item index h = ap (λ v. place_step item [] index v) h
place_of-push_other (first ∷ items) item index h =
    ap (λ p. cond (eqb first.index index) (Some 0) (option_map (λ k. k + 1) p)) (place_of-push_other items item index h)

pub none_behind : (b : Bool) (p : Option ℕ) → cond b (Some 0) (option_map (λ k. k + 1) p) ≡ None
    → (b ≡ false) × (p ≡ None)
none_behind true p h = cc
none_behind false None h = (refl, refl)
none_behind false (Some k) h = cc

pub place_of-push_new : (items : List Item) (item : Item) → place_of items item.index ≡ None
    → place_of (items ++ item ∷ []) item.index ≡ Some (length items)
place_of-push_new [] item h = ap (λ v. place_step item [] item.index v) (itself item.index)
  where
    itself : (n : ℕ) → eqb n n ≡ true
    itself n = grind (arith, nat_tests)
place_of-push_new (first ∷ items) item h =
    let rest = none_behind (eqb first.index item.index) (place_of items item.index) h in
    ap (λ v. cond v (Some 0) (option_map (λ k. k + 1) (place_of (items ++ item ∷ []) item.index))) rest.0
    ∙ ap (λ p. option_map (λ k. k + 1) p) (place_of-push_new items item rest.1)
    ∙ ap (λ n. Some n) (omega arith)

some_is : (a b : ℕ) → Some a ≡ Some b → a ≡ b
some_is a b h = cc

index_behind : (item : Item) (items : List Item) (index k : ℕ) (p : Option ℕ)
    → ((j : ℕ) → Some j ≡ place_of items index → get_or (indices_of items) j 0 ≡ index) → p ≡ place_of items index
    → option_map (λ j. j + 1) p ≡ Some k → get_or (item.index ∷ indices_of items) k 0 ≡ index
index_behind item items index k None rest e g = cc
index_behind item items index k (Some j) rest e g =
    let next : k ≡ suc j = omega (arith, some_is (j + 1) k g) in
    ap (λ i. get_or (item.index ∷ indices_of items) i 0) next ∙ rest j e

-- a place that is found has the index there
pub index_at_place : (items : List Item) (index k : ℕ) → place_of items index ≡ Some k
    → get_or (indices_of items) k 0 ≡ index
index_at_place [] index k h = cc
index_at_place (item ∷ items) index k h = elim (cases_Bool (eqb item.index index)) [
  | inl e ↦
      let zero_is : k ≡ 0 = let first = sym (ap (λ v. place_step item items index v) e) ∙ h in cc in
      ap (λ j. get_or (item.index ∷ indices_of items) j 0) zero_is ∙ (grind (arith, nat_tests, e))
  | inr e ↦ index_behind item items index k (place_of items index) (λ j e. index_at_place items index j (sym e)) refl
      (sym (ap (λ v. place_step item items index v) e) ∙ h)
]
