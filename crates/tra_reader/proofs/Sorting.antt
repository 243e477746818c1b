-- What a stable sort by a number keeps, and that its list rises.
use Rattle.std.proofs.Common.{◌≡◌, ◌∙◌, ◌<◌, ◌≤◌, ℕ, suc, ◌==◌, ◌&&◌, not, Bool, cond, List, [], ◌∷◌, length, get_or}
use Rattle.std.proofs.Common.{refl, sym, ap, ap₂, arith}
use Rattle.std.proofs.lemmas.Bool.Decides.{nat_tests}
use Rattle.std.specs.List.{filter}
use Rattle.std.specs.List.Sorted.{IsNonDecreasingBy, IsStableByKey, ties}
use Rattle.std.specs.Ordering.{nat_cmp, is_lt}
use Rattle.transition_lines.specs.Order.{has, From, Rises}

filter_alike : {X : Type 0} (p q : X → Bool) → ((x : X) → p x ≡ q x) → (xs : List X) → filter p xs ≡ filter q xs
filter_alike p q same [] = refl
filter_alike p q same (x ∷ xs) = ap₂ (λ b ys. cond b (x ∷ ys) ys) (same x) (filter_alike p q same xs)

ties_is : (a b : ℕ) → (not (is_lt (nat_cmp a b)) && not (is_lt (nat_cmp b a))) ≡ (b == a)
ties_is a b = grind (arith, nat_tests)

module _ {X : Type 0} (key : X → ℕ) where
  pub same_with : (xs ys : List X) → IsStableByKey key nat_cmp xs ys → (x : X) (q : ℕ) → key x ≡ q
      → filter (has key q) ys ≡ filter (has key q) xs
  same_with xs ys stable x q is =
      let test : (y : X) → ties (λ a b. is_lt (nat_cmp (key a) (key b))) x y ≡ has key q y =
      λ y. ties_is (key x) (key y) ∙ ap (λ k. key y == k) is in
      sym (filter_alike (ties (λ a b. is_lt (nat_cmp (key a) (key b))) x) (has key q) test ys) ∙ stable x
      ∙ filter_alike (ties (λ a b. is_lt (nat_cmp (key a) (key b))) x) (has key q) test xs

  from_all : (q : ℕ) (xs : List X) → ((i : ℕ) (d : X) → i < length xs → q ≤ key (get_or xs i d)) → From key q xs
  from_all q [] all = tt
  from_all q (x ∷ xs) all = (all 0 x (omega arith), from_all q xs (λ i d h. all (suc i) d (omega arith)))

  pub rises_sorted : (xs : List X) → IsNonDecreasingBy key xs → Rises key xs
  rises_sorted [] up = tt
  rises_sorted (x ∷ xs) up = (
    from_all (key x) xs (λ i d h. up 0 (suc i) d (omega arith) (omega arith)),
    rises_sorted xs (λ i j d le h. up (suc i) (suc j) d (omega arith) (omega arith)),
  )
