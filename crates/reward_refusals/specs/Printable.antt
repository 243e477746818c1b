-- This module says when the numbers of a refusal are written in full.
use Rattle.rewards_reader.specs.declared.fault.RewardsCause.{RewardsCause}
use Rattle.rewards_reader.specs.declared.fault.RewardsCause.TheVariants as rewards
use Rattle.reward_check.specs.declared.check.RewardCause.{RewardCause}
use Rattle.reward_check.specs.declared.check.RewardCause.TheVariants as check
use Rattle.reward_check.specs.declared.check.RewardFault.{RewardFault}
use Rattle.output.specs.Printable.{IsPrintable, ArePrintable, RefusalPrintable}
use Rattle.reward_refusals.specs.declared.refusal.RewardRefusal.{RewardRefusal}
use Rattle.reward_refusals.specs.declared.refusal.RewardRefusal.TheVariants.{Shared, OfRewards, RewardsTooLong}
use Rattle.reward_refusals.specs.declared.refusal.RewardRefusal.TheVariants.{OfCertificateText, OfCertificate}

-- The numbers that say why a file of rewards is refused are written in full.
abbrev pub RewardsPrintable : RewardsCause → Type 0
RewardsPrintable (rewards.LineCount read stated) = ArePrintable read stated
RewardsPrintable cause = Unit {0}

-- If a certificate is refused for a choice, the number of the choice is written in full.
abbrev pub CausePrintable : RewardCause → Type 0
CausePrintable check.Goal = Unit {0}
CausePrintable check.Reply = Unit {0}
CausePrintable (check.Leaves k) = IsPrintable k
CausePrintable (check.Above k) = IsPrintable k
CausePrintable (check.NoStep k) = IsPrintable k
CausePrintable check.Choice = Unit {0}
CausePrintable (check.Short k) = IsPrintable k
CausePrintable (check.Away k) = IsPrintable k

-- The numbers that say where and why a certificate is refused are written in full.
abbrev pub RewardPrintable : RewardFault → Type 0
RewardPrintable fault = IsPrintable fault.state × CausePrintable fault.cause

-- Every number of the refusal is written in full.
abbrev pub RewardRefusalPrintable : RewardRefusal → Type 0
RewardRefusalPrintable (Shared refusal) = RefusalPrintable refusal
RewardRefusalPrintable (OfRewards fault) = IsPrintable fault.line × RewardsPrintable fault.cause
RewardRefusalPrintable RewardsTooLong = Unit {0}
RewardRefusalPrintable (OfCertificateText fault) = IsPrintable fault.line
RewardRefusalPrintable (OfCertificate fault) = RewardPrintable fault
