-- This module defines which certificates of rewards are accepted for a question.
use Rattle.std.specs.Prelude.{◌≡◌, ℕ, List, slice_index}
use Rattle.game_model.specs.Query.{Query, states}
use Rattle.reward_check.specs.Certificates.{Certificate}
use Rattle.reward_check.specs.Parts.{IsAccepted}
use Rattle.reward_text.specs.declared.plan.RewardPlan.{RewardPlan}
use Rattle.reward_text.specs.Entries.{HasRewardStates, certificate_of}
use Rattle.reward_text.specs.Certificate.{IsRewardCertificate}
use Rattle.reward_units.specs.Exact.{ExactRewards, AreRounded}

-- The text has a certificate for the states of the question. Its places and its entries are those of the plan.
pub record IsSaid (q : Query) (text : List ℕ) (plan : RewardPlan) : Type 0 where
  pub lists : HasRewardStates plan (states q)
  pub said : IsRewardCertificate text (certificate_of plan)

-- The certificate is that of the plan, over exact rewards that are rounded to units of its places.
pub record IsCertificateOf (q : Query) (exact : ExactRewards) (plan : RewardPlan) (c : Certificate) : Type 0 where
  pub question : c.question ≡ q
  pub rounded : AreRounded c exact plan.places
  pub finite : c.finite ≡ plan.finite.items
  pub bounded : c.bounded ≡ plan.bounded.items
  pub lower : c.lower ≡ slice_index plan.lower.items
  pub upper : c.upper ≡ slice_index plan.upper.items
  pub choices : c.choices ≡ plan.choices.items
  pub replies : c.replies ≡ plan.replies.items
  pub ranks : c.ranks ≡ plan.ranks.items

-- The text has a certificate with this plan, and over these rewards it passes every part of the check.
pub record IsAcceptedText (q : Query) (exact : ExactRewards) (text : List ℕ) (plan : RewardPlan) (c : Certificate)
    : Type 0 where
  pub read : IsSaid q text plan
  pub of_plan : IsCertificateOf q exact plan c
  pub passes : IsAccepted c
