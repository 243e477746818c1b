-- What bounds the expectations of rounded rewards bounds those of the exact ones, in finer units.
use Rattle.std.proofs.Common.{ℕ, ◌+◌, ◌*◌, ◌^◌, ◌<◌, ◌≤◌, [], length, arith, subst, sym}
use Rattle.std.proofs.Math.Nat.{mul-le-mul_left}
use Rattle.game_model.specs.declared.game.Side.TheVariants.{Max, Min}
use Rattle.game_model.specs.Game.{choices_of}
use Rattle.game_model.specs.Limits.{unit}
use Rattle.game_model.specs.Query.{IsQuery, states}
use Rattle.strategies.specs.Strategies.{reach, by_plan}
use Rattle.strategies.proofs.Plans.{by_plan-inside}
use Rattle.expected_rewards.specs.Rewards.{Rewards, expected}
use Rattle.expected_rewards.specs.Promises.{all_ways}
use Rattle.reward_check.specs.Certificates.{Certificate, IsSound}
use Rattle.reward_units.specs.Units.{most_units, all_below, all_above}
use Rattle.reward_units.specs.Exact.{ExactRewards, ArePaid, AreRounded, uncapped, exact_of}
use Rattle.reward_units.proofs.Capped.{capped-sum, small-sum}
use Rattle.reward_units.proofs.Grows.{grows-inside}
use Rattle.reward_units.proofs.RoundedUnits.{below-sum, above-sum}

-- an upper bound in finer units, over smaller rewards
hold-factors : (d e high upper ways : ℕ) → 1 * e ≤ d * high → high ≤ upper * ways → e ≤ d * upper * ways
hold-factors d e high upper ways grown held = omega (arith, grown, mul-le-mul_left d held)

-- a lower bound in finer units, over greater rewards
assure-factors : (d e low lower ways most won : ℕ) → d * low ≤ 1 * e → lower * ways + most * won ≤ low + most * ways
    → d * lower * ways + d * most * won ≤ e + d * most * ways
assure-factors d e low lower ways most won grown assured = omega (arith, grown, mul-le-mul_left d assured)

-- the rewards of a certificate are on the right side of the exact ones
module _ (c : Certificate) (places den : ℕ) (whole : Rewards) (posed : IsQuery c.question)
    (least : (s k : ℕ) → s < states c.question → k < length (choices_of c.question.game s)
    → den * c.low s k ≤ 10 ^ places * whole s k)
    (most : (s k : ℕ) → s < states c.question → k < length (choices_of c.question.game s)
    → 10 ^ places * whole s k ≤ den * c.high s k) where
  exactly-sound : IsSound c → IsSound (exact_of c places den whole)
  exactly-sound sound = record {
    held = λ faces k s opponent up inside bound.
        hold-factors den _ (expected c.question c.high faces opponent (by_plan c.question c.replies) k [] s) (c.upper s)
        (all_ways c.question faces k)
        (grows-inside c.question posed (λ t m. 10 ^ places * whole t m) c.high 1 den faces opponent
        (by_plan c.question c.replies) up (by_plan-inside c.question posed Min c.replies)
        (λ t m there within. omega (arith, most t m there within)) k [] s inside)
        (sound.held faces k s opponent up inside bound);
    ends = sound.ends;
    assured = record {
      most = den * sound.assured.most;
      pays = λ faces k s opponent down inside finite.
          assure-factors den _ (expected c.question c.low faces (by_plan c.question c.choices) opponent k [] s)
          (c.lower s) (all_ways c.question faces k) sound.assured.most
          (reach c.question faces (by_plan c.question c.choices) opponent k [] s)
          (grows-inside c.question posed c.low (λ t m. 10 ^ places * whole t m) den 1 faces
          (by_plan c.question c.choices) opponent (by_plan-inside c.question posed Max c.choices) down
          (λ t m there within. omega (arith, least t m there within)) k [] s inside)
          (sound.assured.pays faces k s opponent down inside finite);
    };
    endless = sound.endless;
  }

module _ (c : Certificate) (exact : ExactRewards) (places den : ℕ) (whole : Rewards) (posed : IsQuery c.question)
    (paid : ArePaid c.question exact den whole) where
  all-least : (s k : ℕ) → s < states c.question → k < length (choices_of c.question.game s)
      → den * (uncapped c exact places).low s k ≤ 10 ^ places * whole s k
  all-least s k inside within =
      below-sum (exact.of_state s) (exact.of_choice s k) places den (whole s k)
      (paid.denominators.of_state s inside) (paid.denominators.of_choice s k inside within)
      (paid.total s k inside within)

  all-most : (s k : ℕ) → s < states c.question → k < length (choices_of c.question.game s)
      → 10 ^ places * whole s k ≤ den * (uncapped c exact places).high s k
  all-most s k inside within =
      above-sum (exact.of_state s) (exact.of_choice s k) places den (whole s k)
      (paid.denominators.of_state s inside) (paid.denominators.of_choice s k inside within)
      (paid.total s k inside within)

  -- a certificate over all units
  pub uncapped-exact : IsSound (uncapped c exact places) → IsSound (exact_of c places den whole)
  uncapped-exact = exactly-sound (uncapped c exact places) places den whole posed all-least all-most

  -- a certificate over the units of a table, if they are few
  pub capped-exact : AreRounded c exact places
      → ((s k : ℕ) → s < states c.question → k < length (choices_of c.question.game s) → c.high s k ≤ unit)
      → IsSound c → IsSound (exact_of c places den whole)
  capped-exact rounded few =
      exactly-sound c places den whole posed
      (λ s k inside within.
      let less : c.low s k ≤ (uncapped c exact places).low s k =
      omega (
        arith,
        rounded.low s k inside within,
        capped-sum (all_below (exact.of_state s) places) (all_below (exact.of_choice s k) places) most_units,
      ) in
      omega (arith, all-least s k inside within, mul-le-mul_left den less))
      (λ s k inside within.
      let P : ℕ → Type 0 = λ n. 10 ^ places * whole s k ≤ den * n in
      subst P (sym (small-sum (all_above (exact.of_state s) places) (all_above (exact.of_choice s k) places)
      most_units (c.high s k) (rounded.high s k inside within) (omega (arith, few s k inside within))))
      (all-most s k inside within))
