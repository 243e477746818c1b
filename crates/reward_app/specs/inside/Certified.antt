-- These definitions say what is reported on, a certificate in memory that a question accepts, and how one is refused.
use Rattle.std.specs.Prelude.{◌≡◌, ℕ, ◌<◌, ◌≤◌, false, List, Option, All}
use Rattle.fractions.specs.Fraction.{Fraction}
use Rattle.game_model.specs.Limits.{unit}
use Rattle.game_model.specs.Query.{Query, states, is_dead}
use Rattle.reward_check.specs.Parts.{IsAccepted}
use Rattle.reward_units.specs.declared.rounded.Rounding.TheVariants.{Down, Up}
use Rattle.reward_units.specs.Rounded.{exact_in, paid_units, ArePaidUnits}
use Rattle.reward_units.specs.Units.{most_places}
use Rattle.reward_text.specs.Entries.{HasRewardStates}
use Rattle.reward_audit.specs.declared.audited.AuditedRewards.{AuditedRewards}
use Rattle.reward_audit.specs.declared.fault.RewardAuditFault.{RewardAuditFault}
use Rattle.reward_audit.specs.declared.fault.RewardAuditFault.TheVariants.{Text, Plan}
use Rattle.reward_audit.specs.Audited.{audited_certificate}
use Rattle.solved_rewards.specs.declared.solved.SolvedRewards.{SolvedRewards}
use Rattle.reward_refusals.specs.declared.refusal.RewardRefusal.{RewardRefusal}
use Rattle.reward_refusals.specs.declared.refusal.RewardRefusal.TheVariants.{OfCertificateText, OfCertificate}

-- No state of the question is dead.
abbrev pub IsAlive : Query → Type 0
IsAlive q = (s : ℕ) → s < states q → is_dead q s ≡ false

-- The lists are a certificate that the question accepts. Its rewards are those of the table, in units of its places.
pub record IsCertified (q : Query) (table : List (Option Fraction)) (made : AuditedRewards) : Type 0 where
  pub places : made.plan.places ≤ most_places
  pub lists : HasRewardStates made.plan (states q)
  pub lower : All (λ v. v ≤ unit) made.plan.lower.items
  pub upper : All (λ v. v ≤ unit) made.plan.upper.items
  pub low : ArePaidUnits q.game (paid_units Down (exact_in q.game table) made.plan.places) made.low.items
  pub high : ArePaidUnits q.game (paid_units Up (exact_in q.game table) made.plan.places) made.high.items
  pub passes : IsAccepted (audited_certificate q made)

-- A certificate is refused with this refusal for its fault.
abbrev pub refusal_of : RewardAuditFault → RewardRefusal
refusal_of (Text fault) = OfCertificateText fault
refusal_of (Plan fault) = OfCertificate fault

-- A certificate that a solver led to can be written and audited as this one.
abbrev pub as_audited : SolvedRewards → AuditedRewards
as_audited solved = record {
  plan = record {
    places = solved.places;
    finite = solved.finite;
    lower = solved.lower;
    choices = solved.choices;
    ranks = solved.ranks;
    bounded = solved.bounded;
    upper = solved.upper;
    replies = solved.replies;
  };
  low = solved.low;
  high = solved.high;
}
