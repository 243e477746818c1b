-- This module defines the line that says why a run with rewards is refused.
use Rattle.std.specs.Prelude.{ℕ, List, ◌∷◌, ◌++◌, codes}
use Rattle.rewards_reader.specs.declared.fault.RewardsCause.{RewardsCause}
use Rattle.rewards_reader.specs.declared.fault.RewardsCause.TheVariants as rewards
use Rattle.reward_check.specs.declared.check.RewardCause.{RewardCause}
use Rattle.reward_check.specs.declared.check.RewardCause.TheVariants as check
use Rattle.output.specs.declared.refusal.Text.TheVariants.{Cert}
use Rattle.output.specs.Refusals.{numbered, choice_place, counts_text, number_text, plan_cause_text, refused_line}
use Rattle.output.specs.Refusals.{refusal_text}
use Rattle.reward_refusals.specs.declared.refusal.RewardRefusal.{RewardRefusal}
use Rattle.reward_refusals.specs.declared.refusal.RewardRefusal.TheVariants.{Shared, OfRewards, RewardsTooLong}
use Rattle.reward_refusals.specs.declared.refusal.RewardRefusal.TheVariants.{OfCertificateText, OfCertificate}

-- This text says why a text gives no rewards.
abbrev pub rewards_text : RewardsCause → List ℕ
rewards_text rewards.NoHeader = codes "NoHeader"
rewards_text rewards.StateCount = codes "StateCount"
rewards_text rewards.OverLimit = codes "OverLimit"
rewards_text (rewards.LineCount read stated) = codes "LineCount" ++ counts_text read stated
rewards_text rewards.FieldCount = codes "FieldCount"
rewards_text rewards.BadField = codes "BadField"
rewards_text rewards.StateOutOfRange = codes "StateOutOfRange"
rewards_text rewards.ChoiceOutOfRange = codes "ChoiceOutOfRange"
rewards_text (rewards.Number fault) = codes "Number " ++ number_text fault
rewards_text rewards.TooLarge = codes "TooLarge"
rewards_text rewards.DoubleLine = codes "DoubleLine"

-- This text says why a certificate of rewards is refused at a state.
abbrev pub reward_text : ℕ → RewardCause → List ℕ
reward_text state check.Goal = numbered (codes "Goal state ") state
reward_text state check.Reply = numbered (codes "Reply state ") state
reward_text state (check.Leaves k) = codes "Leaves" ++ choice_place state k
reward_text state (check.Above k) = codes "Above" ++ choice_place state k
reward_text state (check.NoStep k) = codes "NoStep" ++ choice_place state k
reward_text state check.Choice = numbered (codes "Choice state ") state
reward_text state (check.Short k) = codes "Short" ++ choice_place state k
reward_text state (check.Away k) = codes "Away" ++ choice_place state k

-- This line tells a fault of the text of this name, with the line of the text.
abbrev pub text_refused : List ℕ → ℕ → List ℕ → List ℕ
text_refused name line cause = codes "refused " ++ (name ++ (numbered (codes " line ") line
    ++ (32 ∷ (cause ++ codes "\n"))))

-- This line tells a fault of the file of rewards, with the line of the file.
abbrev pub rewards_refused : ℕ → List ℕ → List ℕ
rewards_refused line cause = text_refused (codes "rewards") line cause

-- A run writes this line when it is refused.
abbrev pub reward_refusal_text : RewardRefusal → List ℕ
reward_refusal_text (Shared refusal) = refusal_text refusal
reward_refusal_text (OfRewards fault) = rewards_refused fault.line (rewards_text fault.cause)
reward_refusal_text RewardsTooLong = rewards_refused 0 (codes "TooLong")
reward_refusal_text (OfCertificateText fault) = refused_line Cert fault.line (plan_cause_text fault.cause)
reward_refusal_text (OfCertificate fault) = refused_line Cert 0 (reward_text fault.state fault.cause)
