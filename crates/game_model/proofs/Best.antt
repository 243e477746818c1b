-- Laws of optima and of weighted sums.
use Rattle.std.proofs.Common.{◌≡◌, ℕ, zero, suc, ◌+◌, ◌*◌, ◌<◌, ◌≤◌, List, [], ◌∷◌, length, fold, sum_by, arith, refl}
use Rattle.std.proofs.Common.{ap, inl, inr, ◌⊎◌, max, min, get_or}
use Rattle.std.specs.List.{All}
use Rattle.std.proofs.lemmas.List.Elements.{All-head, All-tail}
use Rattle.std.proofs.lemmas.List.Sums.{sum_by-cons}
use Rattle.std.proofs.lemmas.Bool.{cases_lt}
use Rattle.std.proofs.Math.Nat.{mul-le-mul_left, max-le, add-max-add_right, add-min-add_right, max-eq_left}
use Rattle.std.proofs.Math.Nat.{max-eq_right, min-eq_left, min-eq_right, le-max_left, le-max_right, min-le_left}
use Rattle.std.proofs.Math.Nat.{min-le_right}
use Rattle.game_model.specs.declared.game.Edge.{Edge}
use Rattle.game_model.specs.declared.game.Side.{Side}
use Rattle.game_model.specs.declared.game.Side.TheVariants.{Max, Min}
use Rattle.game_model.specs.Values.{better, optimum, weighted_sum}

-- which of the two is the better
pub max-cases : (x y : ℕ) → (max x y ≡ x) ⊎ (max x y ≡ y)
max-cases x y = elim (cases_lt x y) [ inl less ↦ inr (max-eq_right (omega arith)) | inr more ↦ inl (max-eq_left more) ]

pub min-cases : (x y : ℕ) → (min x y ≡ x) ⊎ (min x y ≡ y)
min-cases x y = elim (cases_lt x y) [ inl less ↦ inl (min-eq_left (omega arith)) | inr more ↦ inr (min-eq_right more) ]

-- multiples that are in order stay so
pub better-le : (side : Side) (a b x y x' y' : ℕ) → a * x ≤ b * x' → a * y ≤ b * y'
    → a * better side x y ≤ b * better side x' y'
better-le Max a b x y x' y' h k = elim (max-cases x y) [
  | inl e ↦ rw e (omega (arith, h, mul-le-mul_left b (le-max_left x' y')))
  | inr e ↦ rw e (omega (arith, k, mul-le-mul_left b (le-max_right x' y')))
]
better-le Min a b x y x' y' h k = elim (min-cases x' y') [
  | inl e ↦ rw e (omega (arith, h, mul-le-mul_left a (min-le_left x y)))
  | inr e ↦ rw e (omega (arith, k, mul-le-mul_left a (min-le_right x y)))
]

-- the same from two starts
fold-better-le : {X : Type 0} (side : Side) (f g : X → ℕ) (a b x x' : ℕ) (xs : List X)
    → a * x ≤ b * x' → All (λ y. a * f y ≤ b * g y) xs
    → a * fold (λ best y. better side best (f y)) x xs ≤ b * fold (λ best y. better side best (g y)) x' xs
fold-better-le side f g a b x x' [] h k = h
fold-better-le side f g a b x x' (y ∷ ys) h k =
    fold-better-le side f g a b (better side x (f y)) (better side x' (g y)) ys
    (better-le side a b x (f y) x' (g y) h (All-head (λ z. a * f z ≤ b * g z) y ys k))
    (All-tail (λ z. a * f z ≤ b * g z) y ys k)

-- the optimum of values whose multiples are in order
pub optimum-le : {X : Type 0} (side : Side) (f g : X → ℕ) (a b : ℕ) (xs : List X)
    → All (λ y. a * f y ≤ b * g y) xs → a * optimum side f xs ≤ b * optimum side g xs
optimum-le side f g a b [] k = omega arith
optimum-le side f g a b (x ∷ xs) k = fold-better-le side f g a b (f x) (g x) xs
    (All-head (λ y. a * f y ≤ b * g y) x xs k) (All-tail (λ y. a * f y ≤ b * g y) x xs k)

-- sums over tables whose multiples are in order at each destination
pub weighted_sum-le : (v w : ℕ → ℕ) (a b : ℕ) (edges : List Edge) → All (λ e. a * v e.to ≤ b * w e.to) edges
    → a * weighted_sum v edges ≤ b * weighted_sum w edges
weighted_sum-le v w a b [] h = omega arith
weighted_sum-le v w a b (e ∷ es) h =
    rw (sum_by-cons (λ (d : Edge). d.weight * v d.to) e es, sum_by-cons (λ (d : Edge). d.weight * w d.to) e es)
    (omega (
      arith,
      weighted_sum-le v w a b es (All-tail (λ (d : Edge). a * v d.to ≤ b * w d.to) e es h),
      mul-le-mul_left e.weight (All-head (λ (d : Edge). a * v d.to ≤ b * w d.to) e es h),
    ))

better-most : (side : Side) (x y m : ℕ) → x ≤ m → y ≤ m → better side x y ≤ m
better-most Max x y m h k = max-le h k
better-most Min x y m h k = omega (arith, min-le_left x y)

fold-better-most : {X : Type 0} (side : Side) (f : X → ℕ) (m x : ℕ) (xs : List X) → x ≤ m
    → All (λ y. f y ≤ m) xs → fold (λ best y. better side best (f y)) x xs ≤ m
fold-better-most side f m x [] h k = h
fold-better-most side f m x (y ∷ ys) h k =
    fold-better-most side f m (better side x (f y)) ys
    (better-most side x (f y) m h (All-head (λ z. f z ≤ m) y ys k)) (All-tail (λ z. f z ≤ m) y ys k)

-- the optimum of values that are at most a number
pub optimum-most : {X : Type 0} (side : Side) (f : X → ℕ) (m : ℕ) (xs : List X) → All (λ y. f y ≤ m) xs
    → optimum side f xs ≤ m
optimum-most side f m [] k = omega arith
optimum-most side f m (x ∷ xs) k =
    fold-better-most side f m (f x) xs (All-head (λ y. f y ≤ m) x xs k) (All-tail (λ y. f y ≤ m) x xs k)

-- a sum over a table of values that are at most a number
pub weighted_sum-most : (v : ℕ → ℕ) (m : ℕ) (edges : List Edge) → All (λ e. v e.to ≤ m) edges
    → weighted_sum v edges ≤ sum_by (λ e. e.weight) edges * m
weighted_sum-most v m [] h = omega arith
weighted_sum-most v m (e ∷ es) h =
    rw (sum_by-cons (λ (d : Edge). d.weight * v d.to) e es, sum_by-cons (λ (d : Edge). d.weight) e es)
    (omega (
      arith,
      weighted_sum-most v m es (All-tail (λ (d : Edge). v d.to ≤ m) e es h),
      mul-le-mul_left e.weight (All-head (λ (d : Edge). v d.to ≤ m) e es h),
    ))

-- a sum over two tables that add up to a number
pub weighted_sum-both : (v w : ℕ → ℕ) (m : ℕ) (edges : List Edge) → All (λ e. v e.to + w e.to ≡ m) edges
    → weighted_sum v edges + weighted_sum w edges ≡ sum_by (λ e. e.weight) edges * m
weighted_sum-both v w m [] h = omega arith
weighted_sum-both v w m (e ∷ es) h =
    rw (
      sum_by-cons (λ (d : Edge). d.weight * v d.to) e es,
      sum_by-cons (λ (d : Edge). d.weight * w d.to) e es,
      sum_by-cons (λ (d : Edge). d.weight) e es,
    )
    (omega (
      arith,
      weighted_sum-both v w m es (All-tail (λ (d : Edge). v d.to + w d.to ≡ m) e es h),
      ap (λ n. e.weight * n) (All-head (λ (d : Edge). v d.to + w d.to ≡ m) e es h),
    ))

better-plus : (side : Side) (c x y : ℕ) → better side (x + c) (y + c) ≡ better side x y + c
better-plus Max c x y = add-max-add_right x y c
better-plus Min c x y = add-min-add_right x y c

fold-better-plus : {X : Type 0} (side : Side) (f : X → ℕ) (c x : ℕ) (xs : List X)
    → fold (λ best y. better side best (f y + c)) (x + c) xs ≡ fold (λ best y. better side best (f y)) x xs + c
fold-better-plus side f c x [] = refl
fold-better-plus side f c x (y ∷ ys) = rw better-plus (fold-better-plus side f c (better side x (f y)) ys)

-- the optimum of values that are all raised by a number
pub optimum-plus : {X : Type 0} (side : Side) (f : X → ℕ) (c : ℕ) (xs : List X)
    → optimum side (λ x. f x + c) xs ≤ optimum side f xs + c
optimum-plus side f c [] = omega arith
optimum-plus side f c (x ∷ xs) = rw (fold-better-plus side f c (f x) xs) (omega arith)

-- a sum over a table that is raised by a number everywhere
pub weighted_sum-plus : (v : ℕ → ℕ) (c : ℕ) (edges : List Edge)
    → weighted_sum (λ t. v t + c) edges ≡ weighted_sum v edges + c * sum_by (λ e. e.weight) edges
weighted_sum-plus v c [] = omega arith
weighted_sum-plus v c (e ∷ es) =
    rw (
      sum_by-cons (λ (d : Edge). d.weight * (v d.to + c)) e es,
      sum_by-cons (λ (d : Edge). d.weight * v d.to) e es,
      sum_by-cons (λ (d : Edge). d.weight) e es,
    )
    (omega (arith, weighted_sum-plus v c es))

-- sums over tables that are tied by a fixed inequality at each destination
pub weighted_sum-affine : (u x y : ℕ → ℕ) (a b d c : ℕ) (edges : List Edge)
    → All (λ e. a * u e.to + b * x e.to ≤ d * y e.to + c) edges
    → a * weighted_sum u edges + b * weighted_sum x edges ≤ d * weighted_sum y edges + c * sum_by (λ e. e.weight) edges
weighted_sum-affine u x y a b d c [] h = omega arith
weighted_sum-affine u x y a b d c (e ∷ es) h =
    rw (
      sum_by-cons (λ (f : Edge). f.weight * u f.to) e es,
      sum_by-cons (λ (f : Edge). f.weight * x f.to) e es,
      sum_by-cons (λ (f : Edge). f.weight * y f.to) e es,
      sum_by-cons (λ (f : Edge). f.weight) e es,
    )
    (omega (
      arith,
      weighted_sum-affine u x y a b d c es
          (All-tail (λ (f : Edge). a * u f.to + b * x f.to ≤ d * y f.to + c) e es h),
      mul-le-mul_left e.weight (All-head (λ (f : Edge). a * u f.to + b * x f.to ≤ d * y f.to + c) e es h),
    ))

fold-start : {X : Type 0} (f : X → ℕ) (x : ℕ) (xs : List X) → x ≤ fold (λ best y. better Max best (f y)) x xs
fold-start f x [] = omega arith
fold-start f x (y ∷ ys) = omega (arith, fold-start f (better Max x (f y)) ys, le-max_left x (f y))

fold-each : {X : Type 0} (f : X → ℕ) (x : ℕ) (xs : List X) (i : ℕ) (d : X) → i < length xs
    → f (get_or xs i d) ≤ fold (λ best y. better Max best (f y)) x xs
fold-each f x [] i d l = absurd (omega arith)
fold-each f x (y ∷ ys) zero d l = omega (arith, fold-start f (better Max x (f y)) ys, le-max_right x (f y))
fold-each f x (y ∷ ys) (suc i) d l = fold-each f (better Max x (f y)) ys i d (omega arith)

-- each value is at most the greatest
pub optimum-each : {X : Type 0} (f : X → ℕ) (xs : List X) (i : ℕ) (d : X) → i < length xs
    → f (get_or xs i d) ≤ optimum Max f xs
optimum-each f [] i d l = absurd (omega arith)
optimum-each f (x ∷ xs) zero d l = fold-start f (f x) xs
optimum-each f (x ∷ xs) (suc i) d l = fold-each f (f x) xs i d (omega arith)

fold-below-start : {X : Type 0} (f : X → ℕ) (x : ℕ) (xs : List X) → fold (λ best y. better Min best (f y)) x xs ≤ x
fold-below-start f x [] = omega arith
fold-below-start f x (y ∷ ys) = omega (arith, fold-below-start f (better Min x (f y)) ys, min-le_left x (f y))

fold-below-each : {X : Type 0} (f : X → ℕ) (x : ℕ) (xs : List X) (i : ℕ) (d : X) → i < length xs
    → fold (λ best y. better Min best (f y)) x xs ≤ f (get_or xs i d)
fold-below-each f x [] i d l = absurd (omega arith)
fold-below-each f x (y ∷ ys) zero d l = omega (arith, fold-below-start f (better Min x (f y)) ys, min-le_right x (f y))
fold-below-each f x (y ∷ ys) (suc i) d l = fold-below-each f (better Min x (f y)) ys i d (omega arith)

-- the least is at most each value
pub optimum-below : {X : Type 0} (f : X → ℕ) (xs : List X) (i : ℕ) (d : X) → i < length xs
    → optimum Min f xs ≤ f (get_or xs i d)
optimum-below f [] i d l = absurd (omega arith)
optimum-below f (x ∷ xs) zero d l = fold-below-start f (f x) xs
optimum-below f (x ∷ xs) (suc i) d l = fold-below-each f (f x) xs i d (omega arith)
