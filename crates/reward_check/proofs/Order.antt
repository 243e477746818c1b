-- The parts of a check in their order.
use Rattle.std.proofs.Common.{ℕ, ◌<◌, arith, inr}
use Rattle.reward_check.specs.declared.check.RewardCause.{RewardCause}
use Rattle.reward_check.specs.declared.parts.Part.{Part}
use Rattle.reward_check.specs.declared.parts.Part.TheVariants.{Upper, Ranks, Lower, Infinite}
use Rattle.reward_check.specs.Certificates.{Certificate}
use Rattle.reward_check.specs.Parts.{GoalsHaveZeros, IsPassed, IsAccepted}
use Rattle.reward_check.specs.Faults.{IsFirstUnpassed, IsRewardFault, place_of}

module _ (c : Certificate) (goals : GoalsHaveZeros c) where
  pub upper-fault : (s : ℕ) (cause : RewardCause) → IsFirstUnpassed Upper c s cause → IsRewardFault c s cause
  upper-fault s cause first = inr (record {
    goals = goals;
    part = Upper;
    before = λ earlier less. absurd (omega (arith, less));
    first = first;
  })

  module _ (upper : IsPassed Upper c) where
    before-ranks : (earlier : Part) → place_of earlier < 1 → IsPassed earlier c
    before-ranks Upper less = upper
    before-ranks Ranks less = absurd (omega (arith, less))
    before-ranks Lower less = absurd (omega (arith, less))
    before-ranks Infinite less = absurd (omega (arith, less))

    pub ranks-fault : (s : ℕ) (cause : RewardCause) → IsFirstUnpassed Ranks c s cause → IsRewardFault c s cause
    ranks-fault s cause first = inr (record { goals = goals; part = Ranks; before = before-ranks; first = first })

    module _ (ranks : IsPassed Ranks c) where
      before-lower : (earlier : Part) → place_of earlier < 2 → IsPassed earlier c
      before-lower Upper less = upper
      before-lower Ranks less = ranks
      before-lower Lower less = absurd (omega (arith, less))
      before-lower Infinite less = absurd (omega (arith, less))

      pub lower-fault : (s : ℕ) (cause : RewardCause) → IsFirstUnpassed Lower c s cause → IsRewardFault c s cause
      lower-fault s cause first = inr (record { goals = goals; part = Lower; before = before-lower; first = first })

      module _ (lower : IsPassed Lower c) where
        before-infinite : (earlier : Part) → place_of earlier < 3 → IsPassed earlier c
        before-infinite Upper less = upper
        before-infinite Ranks less = ranks
        before-infinite Lower less = lower
        before-infinite Infinite less = absurd (omega (arith, less))

        pub infinite-fault : (s : ℕ) (cause : RewardCause) → IsFirstUnpassed Infinite c s cause
            → IsRewardFault c s cause
        infinite-fault s cause first =
            inr (record { goals = goals; part = Infinite; before = before-infinite; first = first })

        module _ (infinite : IsPassed Infinite c) where
          passed : (part : Part) → IsPassed part c
          passed Upper = upper
          passed Ranks = ranks
          passed Lower = lower
          passed Infinite = infinite

          pub accepted : IsAccepted c
          accepted = record { goals = goals; parts = passed }
