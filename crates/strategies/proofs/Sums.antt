-- Sums over lists.
use Rattle.std.proofs.Common.{◌≡◌, ℕ, ◌*◌, ◌≤◌, List, [], ◌∷◌, length, map, sum_by, arith, refl, sym, ◌∙◌, ap, ◌+◌}
use Rattle.std.specs.Prelude.{flat_map}
use Rattle.std.specs.List.{range_with_len}
use Rattle.std.proofs.lemmas.List.Sums.{sum_by-cons, sum_by-append}
use Rattle.std.proofs.lemmas.List.FromFn.{length-range_with_len}
use Rattle.game_model.specs.declared.game.Edge.{Edge}
use Rattle.game_model.specs.Values.{weighted_sum}

-- over pieces
pub sum-flat_map : {X Y : Type 0} (g : Y → ℕ) (f : X → List Y) (xs : List X)
    → sum_by g (flat_map f xs) ≡ sum_by (λ x. sum_by g (f x)) xs
sum-flat_map g f [] = refl
sum-flat_map g f (x ∷ xs) = sum_by-append g (f x) (flat_map f xs) ∙ ap (λ n. sum_by g (f x) + n) (sum-flat_map g f xs)
    ∙ sym (sum_by-cons (λ y. sum_by g (f y)) x xs)

-- of equal terms
pub sum-same : {X : Type 0} (f g : X → ℕ) (xs : List X) → ((x : X) → f x ≡ g x) → sum_by f xs ≡ sum_by g xs
sum-same f g [] h = refl
sum-same f g (x ∷ xs) h = rw (sum_by-cons f x xs, sum_by-cons g x xs, h x, sum-same f g xs h) refl

-- of terms with a common factor
pub sum-factor : {X : Type 0} (r : ℕ) (f : X → ℕ) (xs : List X) → sum_by (λ x. r * f x) xs ≡ r * sum_by f xs
sum-factor r f [] = omega arith
sum-factor r f (x ∷ xs) = rw (sum_by-cons (λ y. r * f y) x xs, sum_by-cons f x xs, sum-factor r f xs) (omega arith)

-- over what a function makes of each element
pub sum-map : {X Y : Type 0} (f : Y → ℕ) (g : X → ℕ) (b : X → Y) (r : ℕ) → ((x : X) → f (b x) ≡ r * g x)
    → (xs : List X) → sum_by f (map b xs) ≡ r * sum_by g xs
sum-map f g b r h [] = omega arith
sum-map f g b r h (x ∷ xs) =
    rw (sum_by-cons f (b x) (map b xs), sum_by-cons g x xs, h x, sum-map f g b r h xs) (omega arith)

sum-constant : (c : ℕ) (xs : List ℕ) → sum_by (λ x. c) xs ≡ length xs * c
sum-constant c [] = omega arith
sum-constant c (x ∷ xs) = rw (sum_by-cons (λ (y : ℕ). c) x xs, sum-constant c xs) (omega arith)

-- over the faces, where each throw brings the same
pub sum-throws : (f : ℕ → ℕ) (c faces : ℕ) → ((throw : ℕ) → f throw ≡ c) → sum_by f (range_with_len 0 faces) ≡ faces * c
sum-throws f c faces h = sum-same f (λ x. c) (range_with_len 0 faces) h ∙ sum-constant c (range_with_len 0 faces)
    ∙ ap (λ n. n * c) (length-range_with_len 0 faces)

pub weighted-constant : (c : ℕ) (edges : List Edge) → weighted_sum (λ t. c) edges ≡ sum_by (λ e. e.weight) edges * c
weighted-constant c [] = omega arith
weighted-constant c (e ∷ edges) = rw (
  sum_by-cons (λ (d : Edge). d.weight * c) e edges,
  sum_by-cons (λ (d : Edge). d.weight) e edges,
  weighted-constant c edges,
) (omega arith)

-- of multiples in order
pub sum-scaled : (a b : ℕ) (f g : ℕ → ℕ) (xs : List ℕ) → ((x : ℕ) → a * f x ≤ b * g x)
    → a * sum_by f xs ≤ b * sum_by g xs
sum-scaled a b f g [] h = omega arith
sum-scaled a b f g (x ∷ xs) h =
    rw (sum_by-cons f x xs, sum_by-cons g x xs) (omega (arith, sum-scaled a b f g xs h, h x))
