-- What a plan holds or reaches, said of avoiding goals.
use Rattle.std.proofs.Common.{◌≡◌, ℕ, ◌+◌, ◌-◌, ◌*◌, ◌^◌, ◌≤◌, List, [], arith, ap, ◌∙◌, Option}
use Rattle.std.proofs.Math.Nat.{mul_comm, mul-sub}
use Rattle.game_model.specs.Limits.{unit}
use Rattle.game_model.specs.Query.{Query}
use Rattle.game_model.specs.Values.{denominator}
use Rattle.strategies.specs.Strategies.{reach, by_plan, HoldsAgainstAll, ReachesAgainstAll, AvoidsAgainstAll}
use Rattle.strategies.specs.Strategies.{IsAvoidedAgainstAll}

sub-mul : (a b c : ℕ) → (a - b) * c ≡ a * c - b * c
sub-mul a b c = mul_comm (a - b) c ∙ mul-sub c a b ∙ ap (λ x. x - c * b) (mul_comm c a)
    ∙ ap (λ x. a * c - x) (mul_comm c b)

-- over differences as sums
avoids-sums : (a b c : ℕ) → b ≤ c → a - c ≤ a - b
avoids-sums a b c h = omega (arith, h)

pub avoids-factors : (u t p r : ℕ) → u * r ≤ t * p → (u - t) * p ≤ u * (p - r)
avoids-factors u t p r held = rw (sub-mul u t p, mul-sub u p r) (avoids-sums (u * p) (u * r) (t * p) held)

-- and the other way round
rest-sums : (a b c : ℕ) → c ≤ b → a - b ≤ a - c
rest-sums a b c h = omega (arith, h)

pub rest-factors : (u t p r : ℕ) → t * p ≤ u * r → u * (p - r) ≤ (u - t) * p
rest-factors u t p r reached = rw (sub-mul u t p, mul-sub u p r) (rest-sums (u * p) (u * r) (t * p) reached)

avoided-sums : (a b c e : ℕ) → c ≤ b + e → a - b ≤ a - c + e
avoided-sums a b c e h = omega (arith, h)

avoided-factors : (u m t p r : ℕ) → m * t * p ≤ u * (m * r + p) → u * m * (p - r) ≤ (m * (u - t) + u) * p
avoided-factors u m t p r reached =
    let most : m * t * p ≤ u * m * r + u * p = omega (arith, reached) in
    let sums : u * m * p - u * m * r ≤ u * m * p - m * t * p + u * p =
    avoided-sums (u * m * p) (u * m * r) (m * t * p) (u * p) most in
    let left : u * m * (p - r) ≡ u * m * p - u * m * r = mul-sub (u * m) p r in
    let rest : m * (u - t) * p ≡ m * u * p - m * t * p = ap (λ x. x * p) (mul-sub m u t) ∙ sub-mul (m * u) (m * t) p in
    let right : (m * (u - t) + u) * p ≡ m * (u - t) * p + u * p = omega arith in
    let same : m * u * p ≡ u * m * p = omega arith in
    rw (left, right, rest, same) sums

pub holds-avoids : (q : Query) (plan : List (Option ℕ)) (table : ℕ → ℕ) → HoldsAgainstAll q plan table
    → AvoidsAgainstAll q plan (λ s. unit - table s)
holds-avoids q plan table held faces k s opponent up inside =
    avoids-factors unit (table s) ((faces * denominator q.game) ^ k) (reach q faces opponent (by_plan q plan) k [] s)
    (held faces k s opponent up inside)

pub reaches-avoided : (q : Query) (plan : List (Option ℕ)) (table : ℕ → ℕ) → ReachesAgainstAll q plan table
    → IsAvoidedAgainstAll q plan (λ s. unit - table s)
reaches-avoided q plan table reached m some =
    let at = reached m some in (
      at.0,
      λ faces s opponent down inside.
          avoided-factors unit m (table s) ((faces * denominator q.game) ^ at.0)
          (reach q faces (by_plan q plan) opponent at.0 [] s) (at.1 faces s opponent down inside),
    )
