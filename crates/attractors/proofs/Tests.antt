-- What a test of a list says of its elements.
use Rattle.std.proofs.Common.{◌≡◌, ℕ, zero, suc, ◌<◌, Bool, true, false, List, [], ◌∷◌, length, get_or, arith, inl, inr}
use Rattle.std.specs.List.{All, list_any, list_all}
use Rattle.std.proofs.lemmas.Bool.{or_cases, or_parts, and_cases}
use Rattle.std.proofs.lemmas.List.Elements.{All-nil, All-cons}
use Rattle.std.proofs.lemmas.List.Sums.{AllPass-from_list_all}

pub any-place : {X : Type 0} (p : X → Bool) (xs : List X) (d : X) → list_any p xs ≡ true
    → (i : ℕ) × (i < length xs) × (p (get_or xs i d) ≡ true)
any-place p [] d h = absurd (cc)
any-place p (x ∷ xs) d h = elim (or_cases (p x) (list_any p xs) h) [
  | inl here ↦ (zero, omega arith, here)
  | inr later ↦
      let rest : (i : ℕ) × (i < length xs) × (p (get_or xs i d) ≡ true) = any-place p xs d later in
      (suc rest.0, omega (arith, rest.1), rest.2)
]

pub any-none : {X : Type 0} (p : X → Bool) (xs : List X) → list_any p xs ≡ false → All (λ x. p x ≡ false) xs
any-none p [] h = All-nil (λ x. p x ≡ false)
any-none p (x ∷ xs) h =
    let both : (p x ≡ false) × (list_any p xs ≡ false) = or_parts (p x) (list_any p xs) h in
    All-cons (λ y. p y ≡ false) x xs both.0 (any-none p xs both.1)

pub all-each : {X : Type 0} (p : X → Bool) (xs : List X) → list_all p xs ≡ true → All (λ x. p x ≡ true) xs
all-each p xs h = AllPass-from_list_all p xs h

pub all-place : {X : Type 0} (p : X → Bool) (xs : List X) (d : X) → list_all p xs ≡ false
    → (i : ℕ) × (i < length xs) × (p (get_or xs i d) ≡ false)
all-place p [] d h = absurd (cc)
all-place p (x ∷ xs) d h = elim (and_cases (p x) (list_all p xs) h) [
  | inl here ↦ (zero, omega arith, here)
  | inr later ↦
      let rest : (i : ℕ) × (i < length xs) × (p (get_or xs i d) ≡ false) = all-place p xs d later in
      (suc rest.0, omega (arith, rest.1), rest.2)
]
