-- Optima that are tied by a fixed inequality, and what makes a scaled sum positive.
use Rattle.std.proofs.Common.{◌≡◌, ℕ, ◌+◌, ◌*◌, ◌/◌, ◌<◌, ◌≤◌, Bool, true, false, List, [], ◌∷◌, length, fold, get_or}
use Rattle.std.proofs.Common.{arith, refl, subst, inl, inr}
use Rattle.std.specs.List.{All}
use Rattle.std.specs.Bool.{if◌then◌else◌}
use Rattle.std.proofs.lemmas.Bool.{cases_lt}
use Rattle.std.proofs.lemmas.List.Elements.{All-head, All-tail}
use Rattle.std.proofs.lemmas.List.Sums.{get_or-le-sum_by}
use Rattle.std.proofs.Math.Nat.{mul-le-mul_left, le-max_left, le-max_right, min-le_left, min-le_right, one-le-mul}
use Rattle.game_model.specs.declared.game.Side.{Side}
use Rattle.game_model.specs.declared.game.Side.TheVariants.{Max, Min}
use Rattle.game_model.specs.declared.game.Edge.{Edge}
use Rattle.game_model.specs.Game.{Distribution, no_edge}
use Rattle.game_model.specs.Query.{Query, side_at}
use Rattle.game_model.specs.Values.{better, optimum, weighted_sum, denominator}
use Rattle.game_model.proofs.Choices.{IsChoiceOf}
use Rattle.game_model.proofs.Best.{max-cases, min-cases}

better-affine : (side : Side) (a b d e x y x' y' : ℕ) → a + b * x ≤ d * x' + e → a + b * y ≤ d * y' + e
    → a + b * better side x y ≤ d * better side x' y' + e
better-affine Max a b d e x y x' y' h k = elim (max-cases x y) [
  | inl c ↦ rw c (omega (arith, h, mul-le-mul_left d (le-max_left x' y')))
  | inr c ↦ rw c (omega (arith, k, mul-le-mul_left d (le-max_right x' y')))
]
better-affine Min a b d e x y x' y' h k = elim (min-cases x' y') [
  | inl c ↦ rw c (omega (arith, h, mul-le-mul_left b (min-le_left x y)))
  | inr c ↦ rw c (omega (arith, k, mul-le-mul_left b (min-le_right x y)))
]

fold-better-affine : {X : Type 0} (side : Side) (f g : X → ℕ) (a b d e x x' : ℕ) (xs : List X)
    → a + b * x ≤ d * x' + e → All (λ y. a + b * f y ≤ d * g y + e) xs
    → a + b * fold (λ best y. better side best (f y)) x xs ≤ d * fold (λ best y. better side best (g y)) x' xs + e
fold-better-affine side f g a b d e x x' [] h k = h
fold-better-affine side f g a b d e x x' (y ∷ ys) h k =
    fold-better-affine side f g a b d e (better side x (f y)) (better side x' (g y)) ys
    (better-affine side a b d e x (f y) x' (g y) h (All-head (λ z. a + b * f z ≤ d * g z + e) y ys k))
    (All-tail (λ z. a + b * f z ≤ d * g z + e) y ys k)

pub optimum-affine : {X : Type 0} (side : Side) (f g : X → ℕ) (a b d e : ℕ) (xs : List X) → 0 < length xs
    → All (λ y. a + b * f y ≤ d * g y + e) xs → a + b * optimum side f xs ≤ d * optimum side g xs + e
optimum-affine side f g a b d e [] h k = absurd (omega arith)
optimum-affine side f g a b d e (x ∷ xs) h k = fold-better-affine side f g a b d e (f x) (g x) xs
    (All-head (λ y. a + b * f y ≤ d * g y + e) x xs k) (All-tail (λ y. a + b * f y ≤ d * g y + e) x xs k)

-- the cofactor of a total is positive
pub quotient-pos : (d w : ℕ) → d / w * w ≡ d → 0 < d → 1 ≤ d / w
quotient-pos d w same positive = elim (cases_lt 0 (d / w)) [
  | inl more ↦ more
  | inr none ↦
      let no : d / w ≡ 0 = omega arith in
      let nothing : 0 * w ≡ d = subst (λ n. n * w ≡ d) no same in
      absurd (omega arith)
]

-- a state whose mark is one of three
pub marked-at-least : (goal dead : Bool) (top x : ℕ) → 1 ≤ top → dead ≡ false → (goal ≡ false → 1 ≤ x)
    → 1 ≤ (if goal then top else (if dead then 0 else x))
marked-at-least true dead top x h l k = h
marked-at-least false true top x h l k = absurd (cc)
marked-at-least false false top x h l k = k refl

-- one positive destination makes a sum positive
pub weighted_sum-pos : (m : Distribution) (x : ℕ → ℕ) (p : ℕ) → p < length m.edges
    → 1 ≤ (get_or m.edges p no_edge).weight → 1 ≤ x (get_or m.edges p no_edge).to → 1 ≤ weighted_sum x m.edges
weighted_sum-pos m x p l w h =
    let one : 1 ≤ (get_or m.edges p no_edge).weight * x (get_or m.edges p no_edge).to = one-le-mul w h in
    let part : (get_or m.edges p no_edge).weight * x (get_or m.edges p no_edge).to ≤ weighted_sum x m.edges =
    get_or-le-sum_by (λ (e : Edge). e.weight * x e.to) m.edges p no_edge l in
    omega arith

pub optimum-positive : (q : Query) (s : ℕ) (f : Distribution → ℕ) (xs : List Distribution) → 0 < length xs
    → All (λ m. 1 ≤ f m) xs → 1 ≤ optimum (side_at q s) f xs
optimum-positive q s f xs some each =
    let step : 1 + 0 * optimum (side_at q s) f xs ≤ 1 * optimum (side_at q s) f xs + 0 =
    optimum-affine (side_at q s) f f 1 0 1 0 xs some
    (λ i d l. omega (arith, each i d l)) in
    omega (arith, step)

-- a scaled sum is positive where the value of one destination is
pub scaled-pos : (game : List (List Distribution)) (m : Distribution) (x : ℕ → ℕ) (p : ℕ)
    → 0 < denominator game → IsChoiceOf game m → p < length m.edges → 1 ≤ x (get_or m.edges p no_edge).to
    → 1 ≤ denominator game / m.total * weighted_sum x m.edges
scaled-pos game m x p positive fits inside there =
    one-le-mul (quotient-pos (denominator game) m.total fits.divides positive)
    (weighted_sum-pos m x p inside (fits.weights p no_edge inside) there)
