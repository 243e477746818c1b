-- Ranked values are near.
use Rattle.std.proofs.Common.{ℕ, ◌+◌, ◌*◌, ◌^◌, ◌≤◌, List, arith, Option}
use Rattle.std.specs.Prelude.{slice_index}
use Rattle.std.proofs.Math.Nat.{mul-le-mul_left}
use Rattle.game_model.specs.declared.game.Side.TheVariants.{Max}
use Rattle.game_model.specs.Query.{Query, IsQuery}
use Rattle.game_model.specs.Values.{denominator, numerator}
use Rattle.game_model.specs.Plans.{numerator_under}
use Rattle.game_model.specs.Limits.{unit}
use Rattle.game_model.specs.Bounds.{IsNear}
use Rattle.game_model.specs.Ranks.{Ranked, ReachesUnder}
use Rattle.game_laws.proofs.Under.{numerator_under-most}
use Rattle.rank_certificate.proofs.Plans.{Ranked-reached}

under-near : (m v d u n top : ℕ) → u ≤ n → m * v * d ≤ top * (m * u + d) → m * v * d ≤ top * (m * n + d)
under-near m v d u n top less h =
    let inner : m * u + d ≤ m * n + d = omega (arith, mul-le-mul_left m less) in
    omega (arith, mul-le-mul_left top inner, h)

-- what a plan reaches is near
ReachesUnder-near : (q : Query) (plan : List (Option ℕ)) (value : ℕ → ℕ) → ReachesUnder q plan value → IsNear q value
ReachesUnder-near q plan value h = λ m some.
    let at = h m some in (
      at.0,
      λ s inside. under-near m (value s) (denominator q.game ^ at.0) (numerator_under q Max plan at.0 s)
          (numerator q at.0 s) unit (numerator_under-most q plan at.0 s) (at.1 s inside),
    )

pub Ranked-near : (q : Query) (values : List ℕ) (choices : List (Option ℕ)) (ranks : List ℕ) → IsQuery q
    → Ranked q values choices ranks → IsNear q (slice_index values)
Ranked-near q values choices ranks posed h =
    ReachesUnder-near q choices (slice_index values) (Ranked-reached q values choices ranks posed h)
