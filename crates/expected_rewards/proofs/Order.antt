-- The two tables of a question are in order, and plays that end pay the lower one.
use Rattle.std.proofs.Common.{◌≡◌, ℕ, ◌+◌, ◌*◌, ◌^◌, ◌<◌, ◌≤◌, Bool}
use Rattle.std.proofs.Common.{true, List, [], Option, arith, subst, inl, inr}
use Rattle.std.proofs.Math.Nat.{le_of_mul-le-mul_left, lt_of_mul-lt-mul_right, mul-le-mul_left, one-le-pow}
use Rattle.std.proofs.lemmas.Bool.{cases_Bool, cases_lt}
use Rattle.game_model.specs.declared.game.Side.TheVariants.{Max, Min}
use Rattle.game_model.specs.Query.{Query, IsQuery, states}
use Rattle.game_model.specs.Values.{denominator}
use Rattle.game_model.proofs.Choices.{denominator-pos}
use Rattle.strategies.specs.Strategies.{Strategy, IsStrategyOf, reach, by_plan}
use Rattle.strategies.proofs.Plans.{by_plan-inside}
use Rattle.expected_rewards.specs.Rewards.{Rewards, expected}
use Rattle.expected_rewards.specs.Tables.{is_finite}
use Rattle.expected_rewards.specs.Promises.{PaysAtLeast, AreRewardBounds, IsSureFrom, PaysFrom}
use Rattle.expected_rewards.proofs.Rises.{grows}
use Rattle.expected_rewards.proofs.Within.{reach-most}

short-factors : (low high p r e most : ℕ) → 0 < p → r ≤ p → e ≤ high * p → low * p + most * r ≤ e + most * p
    → (most + 2) * p ≤ (most + 2) * r + p → low ≤ high
short-factors low high p r e most some within held paid near = elim (cases_lt r p) [
  | inl less ↦
      let one : low * p < (high + 1) * p = omega (arith, held, paid, near, less) in
      let two : low < high + 1 = lt_of_mul-lt-mul_right p one in omega (arith, two)
  | inr all ↦
      let same : r ≡ p = omega (arith, within, all) in
      let full : low * p + most * p ≤ e + most * p = subst (λ x. low * p + most * x ≤ e + most * p) same paid in
      let one : p * low ≤ p * high = omega (arith, held, full) in
      le_of_mul-le-mul_left {k = p} one some
]

miss-factors : (p r most : ℕ) → 0 < p → r ≤ p → most * r + p ≤ most * p → (most + 2) * p ≤ (most + 2) * r + p → ⊥
miss-factors p r most some within misses near =
    let below : p ≤ r = omega (arith, misses, near) in
    absurd (omega (arith, mul-le-mul_left most below, misses, some))

module _ (q : Query) (low high : Rewards) (finite bounded : List Bool) (choices replies : List (Option ℕ))
    (lower upper : ℕ → ℕ) (posed : IsQuery q)
    (bounds : AreRewardBounds q low high finite bounded choices replies lower upper) where
  up : IsStrategyOf q Max (by_plan q choices)
  up = by_plan-inside q posed Max choices

  down : IsStrategyOf q Min (by_plan q replies)
  down = by_plan-inside q posed Min replies

  some-ways : (k : ℕ) → 0 < (1 * denominator q.game) ^ k
  some-ways k =
      let some : 0 < denominator q.game = denominator-pos q.game posed.game in
      let whole : 1 * denominator q.game ≡ denominator q.game = omega arith in
      omega (arith, one-le-pow k (1 * denominator q.game) (omega (arith, some, whole)))

  -- a state that has an upper bound is finite
  pub bounded-finite : (s : ℕ) → s < states q → is_finite bounded s ≡ true → is_finite finite s ≡ true
  bounded-finite s inside bound = elim (cases_Bool (is_finite finite s)) [
    | inl fin ↦ fin
    | inr away ↦
        let at = bounds.ends (bounds.endless.most + 2) (omega arith) in
        absurd (miss-factors ((1 * denominator q.game) ^ at.0)
        (reach q 1 (by_plan q choices) (by_plan q replies) at.0 [] s) bounds.endless.most (some-ways at.0)
        (reach-most q posed 1 (by_plan q choices) (by_plan q replies) up down at.0 [] s inside)
        (bounds.endless.misses 1 at.0 s (by_plan q replies) down inside away)
        (at.1 1 s (by_plan q choices) up inside bound))
  ]

  -- the lower table is nowhere above the upper one
  pub ordered : ((t c : ℕ) → low t c ≤ high t c) → (s : ℕ) → s < states q → is_finite bounded s ≡ true
      → lower s ≤ upper s
  ordered each s inside bound =
      let at = bounds.ends (bounds.assured.most + 2) (omega arith) in
      let grown : 1 * expected q low 1 (by_plan q choices) (by_plan q replies) at.0 [] s
      ≤ 1 * expected q high 1 (by_plan q choices) (by_plan q replies) at.0 [] s =
      grows q low high 1 1 1 (by_plan q choices) (by_plan q replies) (λ t c. omega (arith, each t c)) at.0 [] s in
      let held : expected q high 1 (by_plan q choices) (by_plan q replies) at.0 [] s
      ≤ upper s * (1 * denominator q.game) ^ at.0 = bounds.held 1 at.0 s (by_plan q choices) up inside bound in
      short-factors (lower s) (upper s) ((1 * denominator q.game) ^ at.0)
      (reach q 1 (by_plan q choices) (by_plan q replies) at.0 [] s)
      (expected q low 1 (by_plan q choices) (by_plan q replies) at.0 [] s) bounds.assured.most (some-ways at.0)
      (reach-most q posed 1 (by_plan q choices) (by_plan q replies) up down at.0 [] s inside)
      (omega (arith, grown, held))
      (bounds.assured.pays 1 at.0 s (by_plan q replies) down inside (bounded-finite s inside bound))
      (at.1 1 s (by_plan q choices) up inside bound)

sure-factors : (m low p r e most : ℕ) → low * p + most * r ≤ e + most * p → r ≤ p
    → (m * most + 1) * p ≤ (m * most + 1) * r + p → m * low * p ≤ m * e + p
sure-factors m low p r e most paid within near = omega (arith, mul-le-mul_left m paid, near, within)

-- a play of the minimiser that ends almost surely pays the lower table, less any 1/m
pub paid-surely : (q : Query) (rewards : Rewards) (finite : List Bool) (plan : List (Option ℕ)) (lower : ℕ → ℕ)
    → IsQuery q → PaysAtLeast q rewards finite plan lower → (faces s : ℕ) (opponent : Strategy)
    → IsStrategyOf q Min opponent → s < states q → is_finite finite s ≡ true
    → IsSureFrom q faces (by_plan q plan) opponent s
    → PaysFrom q rewards faces (by_plan q plan) opponent s (lower s)
paid-surely q rewards finite plan lower posed pays faces s opponent down inside fin sure m some =
    let at = sure (m * pays.most + 1) (omega arith) in (
      at.0,
      sure-factors m (lower s) ((faces * denominator q.game) ^ at.0)
          (reach q faces (by_plan q plan) opponent at.0 [] s)
          (expected q rewards faces (by_plan q plan) opponent at.0 [] s) pays.most
          (pays.pays faces at.0 s opponent down inside fin)
          (reach-most q posed faces (by_plan q plan) opponent (by_plan-inside q posed Max plan) down at.0 [] s inside)
          at.1,
    )
