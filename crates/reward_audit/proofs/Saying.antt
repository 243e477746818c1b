-- What is read of a text is what the text says.
use Rattle.std.proofs.Common.{◌≡◌, ◌↔◌, ℕ, List, Ok, length, subst}
use Rattle.game_model.specs.Query.{Query, states}
use Rattle.reward_text.specs.declared.plan.RewardPlan.{RewardPlan}
use Rattle.reward_text.specs.Entries.{RewardCertificate, HasRewardStates, certificate_of}
use Rattle.reward_text.specs.Certificate.{IsRewardCertificate}
use Rattle.reward_text.specs.Said.{rewards_said}
use Rattle.reward_audit.specs.Accepted.{IsSaid}

-- A text says a certificate for this many states exactly if it has this certificate.
abbrev pub SaysWhatItHas : Type 0
SaysWhatItHas = (text : List ℕ) (states : ℕ) (certificate : RewardCertificate)
    → (rewards_said text states ≡ Ok certificate)
    ↔ ((length certificate.entries ≡ states) × IsRewardCertificate text certificate)

pub read-said : (q : Query) (text : List ℕ) (plan : RewardPlan) (n : ℕ) → SaysWhatItHas → n ≡ states q
    → HasRewardStates plan n → rewards_said text n ≡ Ok (certificate_of plan) → IsSaid q text plan
read-said q text plan n law same lists said = record {
  lists = subst (λ k. HasRewardStates plan k) same lists;
  said = ((law text n (certificate_of plan)).0 said).1;
}
