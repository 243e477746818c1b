-- How near rounded steps from an opening table are to the exact values.
use Rattle.std.proofs.Common.{◌≡◌, ℕ, zero, suc, ◌+◌, ◌-◌, ◌*◌, ◌/◌, ◌^◌, ◌<◌, ◌≤◌, List, get_or, arith, sum_by, subst}
use Rattle.std.specs.List.{All}
use Rattle.std.proofs.Math.Nat.{mul-le-mul_left, pow-suc, pow-zero, div-mul-le_self, lt-div-mul-add}
use Rattle.game_model.specs.Game.{Distribution, choices_of}
use Rattle.game_model.specs.Query.{Query, IsQuery}
use Rattle.game_model.specs.Values.{weighted_sum, denominator}
use Rattle.game_model.specs.Limits.{unit}
use Rattle.game_model.proofs.Choices.{IsChoiceOf, AreChoicesOf, AreChoicesOf-choices_of}
use Rattle.game_model.proofs.Best.{weighted_sum-affine}
use Rattle.bounded_rounds.specs.Steps.{steps_from}
use Rattle.bounded_rounds.specs.Exact.{exact_from}
use Rattle.bounded_rounds.proofs.Stepping.{step_of}
use Rattle.bounded_rounds.proofs.Affine.{bellman-affine}

-- a rounded quotient is at most so many above, and at most so many below
pub IsAtMostAbove : (ℕ → ℕ → ℕ) → ℕ → Type 0
IsAtMostAbove round e = (x w : ℕ) → 0 < w → round x w * w ≤ x + e * w

pub IsAtMostBelow : (ℕ → ℕ → ℕ) → ℕ → Type 0
IsAtMostBelow round e = (x w : ℕ) → 0 < w → x ≤ (round x w + e) * w

-- a sum over tables that are tied by an inequality with a remainder
sum-tied : (game : List (List Distribution)) (u v : ℕ → ℕ) (a b c : ℕ) (m : Distribution) → IsChoiceOf game m
    → ((t : ℕ) → a * u t ≤ b * v t + c) → a * weighted_sum u m.edges ≤ b * weighted_sum v m.edges + c * m.total
sum-tied game u v a b c m fits h =
    let sums : a * weighted_sum u m.edges + 0 * weighted_sum u m.edges
    ≤ b * weighted_sum v m.edges + c * sum_by (λ e. e.weight) m.edges =
    weighted_sum-affine u u v a 0 b c m.edges
    (λ i d l. omega (arith, h (get_or m.edges i d).to)) in
    subst (λ n. a * weighted_sum u m.edges ≤ b * weighted_sum v m.edges + c * n) fits.sums (omega arith)

-- a rounded quotient f of x against the scaled sum r * y, where d = r * w
quotient-below : (f w r d p x y c e : ℕ) → f * w ≤ x + e * w → r * w ≡ d → p * x ≤ 1 * y + c * w
    → p * d * f ≤ 1 * (r * y) + (c * d + e * (p * d))
quotient-below f w r d p x y c e rounded same tied =
    rw (← same) (omega (arith, mul-le-mul_left (p * r) rounded, mul-le-mul_left r tied))

quotient-above : (f w r d p x y c e : ℕ) → x ≤ (f + e) * w → r * w ≡ d → 1 * y ≤ p * x + c * w
    → 1 * (r * y) ≤ p * d * f + (c * d + e * (p * d))
quotient-above f w r d p x y c e rounded same tied =
    rw (← same) (omega (arith, mul-le-mul_left (p * r) rounded, mul-le-mul_left r tied))

module _ (round : ℕ → ℕ → ℕ) (e : ℕ) (q : Query) (opening : ℕ → ℕ) (posed : IsQuery q) where
  -- steps that round up by at most e units are at most e units a step above the exact values
  pub steps_from-below : IsAtMostAbove round e → (k s : ℕ)
      → denominator q.game ^ k * steps_from (step_of round q) opening k s
      ≤ 1 * exact_from q opening k s + e * k * denominator q.game ^ k
  unfolding steps_from exact_from IsAtMostAbove
  steps_from-below above zero s = rw (pow-zero (denominator q.game)) (omega arith)
  steps_from-below above (suc k) s =
      let D : ℕ = denominator q.game in
      let chosen : AreChoicesOf q.game (choices_of q.game) = AreChoicesOf-choices_of q.game posed.game in
      let table : ℕ → ℕ = steps_from (step_of round q) opening k in
      let each : All (λ m. D ^ k * D * round (weighted_sum table m.edges) m.total
      ≤ 1 * (D / m.total * weighted_sum (exact_from q opening k) m.edges) + e * suc k * (D ^ k * D))
      (choices_of q.game s) =
      λ i d l.
      let m : Distribution = get_or (choices_of q.game s) i d in
      let fits : IsChoiceOf q.game m = chosen.each s i d l in
      let one : D ^ k * D * round (weighted_sum table m.edges) m.total
      ≤ 1 * (D / m.total * weighted_sum (exact_from q opening k) m.edges) + (e * k * D ^ k * D + e * (D ^ k * D)) =
      quotient-below (round (weighted_sum table m.edges) m.total) m.total (D / m.total) D (D ^ k)
      (weighted_sum table m.edges) (weighted_sum (exact_from q opening k) m.edges) (e * k * D ^ k) e
      (above (weighted_sum table m.edges) m.total fits.positive) fits.divides
      (sum-tied q.game table (exact_from q opening k) (D ^ k) 1 (e * k * D ^ k) m fits
      (λ t. steps_from-below above k t)) in omega arith in
      rw (pow-suc D k) (bellman-affine q (choices_of q.game) (D ^ k * D) 1 (e * suc k * (D ^ k * D)) unit
      (unit * (D ^ k * D)) _ _ s (omega arith) each)

  -- steps that round down by at most e units are at most e units a step below the exact values
  pub steps_from-above : IsAtMostBelow round e → (k s : ℕ) → 1 * exact_from q opening k s
      ≤ denominator q.game ^ k * steps_from (step_of round q) opening k s + e * k * denominator q.game ^ k
  unfolding steps_from exact_from IsAtMostBelow
  steps_from-above below zero s = rw (pow-zero (denominator q.game)) (omega arith)
  steps_from-above below (suc k) s =
      let D : ℕ = denominator q.game in
      let chosen : AreChoicesOf q.game (choices_of q.game) = AreChoicesOf-choices_of q.game posed.game in
      let table : ℕ → ℕ = steps_from (step_of round q) opening k in
      let each : All (λ m. 1 * (D / m.total * weighted_sum (exact_from q opening k) m.edges)
      ≤ D ^ k * D * round (weighted_sum table m.edges) m.total + e * suc k * (D ^ k * D)) (choices_of q.game s) =
      λ i d l.
      let m : Distribution = get_or (choices_of q.game s) i d in
      let fits : IsChoiceOf q.game m = chosen.each s i d l in
      let one : 1 * (D / m.total * weighted_sum (exact_from q opening k) m.edges)
      ≤ D ^ k * D * round (weighted_sum table m.edges) m.total + (e * k * D ^ k * D + e * (D ^ k * D)) =
      quotient-above (round (weighted_sum table m.edges) m.total) m.total (D / m.total) D (D ^ k)
      (weighted_sum table m.edges) (weighted_sum (exact_from q opening k) m.edges) (e * k * D ^ k) e
      (below (weighted_sum table m.edges) m.total fits.positive) fits.divides
      (sum-tied q.game (exact_from q opening k) table 1 (D ^ k) (e * k * D ^ k) m fits
      (λ t. steps_from-above below k t)) in omega arith in
      rw (pow-suc D k) (bellman-affine q (choices_of q.game) 1 (D ^ k * D) (e * suc k * (D ^ k * D))
      (unit * (D ^ k * D)) unit _ _ s (omega arith) each)

-- a quotient that is rounded down is nowhere above, and at most one below
pub down-above : IsAtMostAbove (λ x w. x / w) 0
unfolding IsAtMostAbove
down-above x w positive = omega (arith, div-mul-le_self x w)

pub down-below : IsAtMostBelow (λ x w. x / w) 1
unfolding IsAtMostBelow
down-below x w positive = omega (arith, lt-div-mul-add {a = x} positive)

-- a quotient that is rounded up is at most one above, and nowhere below
pub up-above : IsAtMostAbove (λ x w. (x + (w - 1)) / w) 1
unfolding IsAtMostAbove
up-above x w positive = omega (arith, div-mul-le_self (x + (w - 1)) w)

pub up-below : IsAtMostBelow (λ x w. (x + (w - 1)) / w) 0
unfolding IsAtMostBelow
up-below x w positive = omega (arith, lt-div-mul-add {a = x + (w - 1)} positive)
