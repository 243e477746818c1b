-- A table whose rounded-up step is nowhere above it is above every k-step value.
use Rattle.std.proofs.Common.{◌≡◌, ℕ, zero, suc, ◌+◌, ◌-◌, ◌*◌, ◌/◌, ◌^◌, ◌<◌, ◌≤◌, Bool, true, false, List, length}
use Rattle.std.proofs.Common.{get_or, arith}
use Rattle.std.specs.List.{All}
use Rattle.std.specs.Bool.{if◌then◌else◌}
use Rattle.std.proofs.Math.Nat.{mul-le-mul_left, mul-le-mul_right, pow-suc, pow-zero, lt-div-mul-add}
use Rattle.game_model.specs.Game.{Distribution, choices_of}
use Rattle.game_model.specs.Query.{Query, is_goal}
use Rattle.game_model.specs.Values.{weighted_sum, bellman, denominator, numerator_of}
use Rattle.game_model.specs.Limits.{unit}
use Rattle.game_model.specs.Rounded.{up_value, up_step}
use Rattle.game_model.specs.Bounds.{IsHigh}
use Rattle.game_model.proofs.Choices.{IsChoiceOf, AreChoicesOf}
use Rattle.game_model.proofs.Best.{weighted_sum-le}
use Rattle.game_model.proofs.Rises.{bellman-le}

-- a quotient that is rounded up
pub ceil-above : (x w : ℕ) → 0 < w → x ≤ (x + (w - 1)) / w * w
ceil-above x w positive = omega (arith, lt-div-mul-add {a = x + (w - 1)} positive)

scaled-above : (u w r d p m x y : ℕ) → x ≤ u * w → r * w ≡ d → m * y ≤ p * x → m * (r * y) ≤ p * d * u
scaled-above u w r d p m x y ceil same above =
    rw (← same) (omega (arith, mul-le-mul_left r above, mul-le-mul_left (r * p) ceil))

-- a rounded-up value is at least the k-step value of its choice
pub up_value-above : (q : Query) (choices : ℕ → List Distribution) (table : ℕ → ℕ) (k : ℕ) (m : Distribution)
    → IsChoiceOf q.game m
    → ((t : ℕ) → t < length q.game → unit * numerator_of q choices k t ≤ denominator q.game ^ k * table t)
    → unit * (denominator q.game / m.total * weighted_sum (numerator_of q choices k) m.edges)
    ≤ denominator q.game ^ suc k * up_value table m
up_value-above q choices table k m fits above =
    let D : ℕ = denominator q.game in
    let sums : unit * weighted_sum (numerator_of q choices k) m.edges ≤ D ^ k * weighted_sum table m.edges =
    weighted_sum-le (numerator_of q choices k) table unit (D ^ k) m.edges
    (λ i d l. above (get_or m.edges i d).to (fits.inside i d l)) in
    rw pow-suc (scaled-above (up_value table m) m.total (D / m.total) D (D ^ k) unit (weighted_sum table m.edges)
    (weighted_sum (numerator_of q choices k) m.edges)
    (ceil-above (weighted_sum table m.edges) m.total fits.positive) fits.divides sums)

opening-above : (goal : Bool) (top d x u : ℕ) → (if goal then top else x) ≤ u
    → top * (if goal then 1 else 0) ≤ d ^ 0 * u
opening-above true top d x u h =
    let at : top ≤ u = h in
    let one : 1 ≤ d ^ 0 = omega (arith, pow-zero d) in
    let step : top * 1 ≤ d ^ 0 * u = omega (arith, at, mul-le-mul_right u one) in step
opening-above false top d x u h = let at : top * 0 ≤ d ^ 0 * u = omega arith in at

-- where no up value over the table is above its entry, the table is above every k-step value
pub inductive-above : (q : Query) (choices : ℕ → List Distribution) (table : ℕ → ℕ) → AreChoicesOf q.game choices
    → ((s : ℕ) → s < length q.game → bellman q choices unit (up_value table) s ≤ table s)
    → (k s : ℕ) → s < length q.game → unit * numerator_of q choices k s ≤ denominator q.game ^ k * table s
unfolding numerator_of
inductive-above q choices table chosen inductive zero s inside =
    opening-above (is_goal q s) unit (denominator q.game) _ (table s) (inductive s inside)
inductive-above q choices table chosen inductive (suc k) s inside =
    let D : ℕ = denominator q.game in
    let each : All (λ m.
    unit * (D / m.total * weighted_sum (numerator_of q choices k) m.edges) ≤ D ^ suc k * up_value table m) (choices s) =
    λ i d l. up_value-above q choices table k (get_or (choices s) i d) (chosen.each s i d l)
    (λ t within. inductive-above q choices table chosen inductive k t within) in
    let step : unit * numerator_of q choices (suc k) s ≤ D ^ suc k * bellman q choices unit (up_value table) s =
    bellman-le q choices unit (D ^ suc k) (D ^ suc k) unit _ (up_value table) s (omega arith) each in
    omega (arith, step, mul-le-mul_left (D ^ suc k) (inductive s inside))

-- a table whose up step is nowhere above it is high
pub IsHigh-up_step : (q : Query) (table : ℕ → ℕ) → AreChoicesOf q.game (choices_of q.game)
    → ((s : ℕ) → s < length q.game → up_step q table s ≤ table s) → IsHigh q table
IsHigh-up_step q table chosen inductive =
    λ k s inside. omega (arith, inductive-above q (choices_of q.game) table chosen inductive k s inside)
