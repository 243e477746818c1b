-- What a value that is reached says of thresholds, and values that a plan reaches.
use Rattle.std.proofs.Common.{ℕ, ◌+◌, ◌*◌, ◌^◌, ◌<◌, ◌≤◌, List, Option, length, arith, lit<}
use Rattle.std.proofs.Math.Nat.{mul-le-mul_left, mul-le-mul_right, le_of_mul-le-mul_left, lt_of_mul-lt-mul_left}
use Rattle.std.proofs.Math.Nat.{one-le-pow}
use Rattle.game_model.specs.declared.game.Side.TheVariants.{Max}
use Rattle.game_model.specs.Query.{Query, IsQuery}
use Rattle.game_model.specs.Values.{denominator, numerator}
use Rattle.game_model.specs.Limits.{unit}
use Rattle.game_model.specs.Bounds.{Reaches, Exceeds}
use Rattle.game_model.specs.Plans.{numerator_under}
use Rattle.game_model.specs.Ranks.{ReachesUnder}
use Rattle.game_model.proofs.Choices.{denominator-pos}

unit-pos : 0 < unit
unit-pos = lit< tt

less : (u a b v n d m : ℕ) → 0 < u → a * u ≤ v * b → v * m * d ≤ u * (m * n + d) → a * m * d ≤ b * (m * n + d)
less u a b v n d m positive bound near =
    let whole : u * (a * m * d) ≤ u * (b * (m * n + d)) =
    omega (arith, mul-le-mul_right (m * d) bound, mul-le-mul_left b near) in
    le_of_mul-le-mul_left whole positive

-- a threshold that is at most a value that is reached is reached
pub reaches-less : (q : Query) (value a b s : ℕ) → Reaches q value unit s → a * unit ≤ value * b → Reaches q a b s
reaches-less q value a b s reached bound = λ m some.
    let near = reached m some in
    (near.0, less unit a b value (numerator q near.0 s) (denominator q.game ^ near.0) m unit-pos bound near.1)

-- with m above b units, a value less 1/m is still above the threshold
exceeding : (u a b v n d : ℕ) → 0 < d → a * u < v * b → v * (b * u + 1) * d ≤ u * ((b * u + 1) * n + d) → a * d < b * n
exceeding u a b v n d positive above near =
    let m : ℕ = b * u + 1 in
    let more : (a * u + 1) * (m * d) ≤ v * b * (m * d) = mul-le-mul_right (m * d) (omega (arith, above)) in
    let times : b * (v * m * d) ≤ b * (u * (m * n + d)) = mul-le-mul_left b near in
    let whole : (u * m) * (a * d) < (u * m) * (b * n) = omega (arith, more, times, positive) in
    lt_of_mul-lt-mul_left (u * m) whole

-- a threshold that is below a value that is reached is exceeded
pub exceeds-less : (q : Query) (value a b s : ℕ) → IsQuery q → Reaches q value unit s
    → a * unit < value * b → Exceeds q a b s
exceeds-less q value a b s h reached above =
    let near : (k : ℕ) × (value * (b * unit + 1) * denominator q.game ^ k
    ≤ unit * ((b * unit + 1) * numerator q k s + denominator q.game ^ k)) = reached (b * unit + 1) (omega arith) in (
      near.0,
      exceeding unit a b value (numerator q near.0 s) (denominator q.game ^ near.0)
          (one-le-pow near.0 (denominator q.game) (denominator-pos q.game h.game)) above near.1,
    )

below : (u v n p d m : ℕ) → p ≤ n → m * v * d ≤ u * (m * p + d) → v * m * d ≤ u * (m * n + d)
below u v n p d m most near = omega (arith, near, mul-le-mul_left (u * m) most)

-- what a plan reaches is reached, since a plan reaches at most the value
pub planned-reaches : ((q : Query) (plan : List (Option ℕ)) (k s : ℕ)
    → numerator_under q Max plan k s ≤ numerator q k s) → (q : Query) (plan : List (Option ℕ)) (value : ℕ → ℕ) (s : ℕ)
    → ReachesUnder q plan value → s < length q.game → Reaches q (value s) unit s
planned-reaches most q plan value s reached inside = λ m some.
    let near = reached m some in (
      near.0,
      below unit (value s) (numerator q near.0 s) (numerator_under q Max plan near.0 s) (denominator q.game ^ near.0) m
          (most q plan near.0 s) (near.1 s inside),
    )
