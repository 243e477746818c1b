-- A certificate is refused for a question because of the first fault of its text, and then of its plan.
use Rattle.std.specs.Prelude.{◌≡◌, ◌⊎◌, ℕ, ◌≤◌, List, slice_index, All, Err}
use Rattle.game_model.specs.Query.{Query, states}
use Rattle.game_model.specs.Limits.{unit}
use Rattle.game_model.specs.Rounded.{IsInductive}
use Rattle.inductive_check.specs.declared.upper.UpperFault.{UpperFault}
use Rattle.inductive_check.specs.declared.upper.UpperCause.TheVariants.{Reply}
use Rattle.inductive_check.specs.Faults.{IsUpperFault}
use Rattle.inductive_check.specs.Replies.{AreReplies, IsFirstWithoutReply}
use Rattle.rank_certificate.specs.declared.check.RankFault.{RankFault}
use Rattle.rank_certificate.specs.Faults.{IsRankFault}
use Rattle.plan_text.specs.declared.plan.Plan.{Plan}
use Rattle.plan_text.specs.declared.fault.PlanCause.TheVariants.{OutOfMemory}
use Rattle.plan_text.specs.Said.{entries_said, fault_at}
use Rattle.certificate_audit.specs.declared.fault.AuditFault.{AuditFault}
use Rattle.certificate_audit.specs.declared.fault.AuditFault.TheVariants.{Text, Upper, Ranks}
use Rattle.certificate_audit.specs.Accepted.{IsSaid}

-- The upper table is inductive, and this is the first state that needs a reply and has none that is held.
pub record IsReplyFault (q : Query) (plan : Plan) (fault : UpperFault) : Type 0 where
  pub units : All (λ v. v ≤ unit) plan.upper.items
  pub inductive : IsInductive q (slice_index plan.upper.items)
  pub cause : fault.cause ≡ Reply
  pub first : IsFirstWithoutReply q (slice_index plan.upper.items) plan.replies.items fault.state

-- The upper table is inductive, the replies are held to it, and this is the fault of the lower table, choices and
-- ranks.
pub record IsLowerFault (q : Query) (plan : Plan) (fault : RankFault) : Type 0 where
  pub units : All (λ v. v ≤ unit) plan.upper.items
  pub inductive : IsInductive q (slice_index plan.upper.items)
  pub replies : AreReplies q (slice_index plan.upper.items) plan.replies.items
  pub first : IsRankFault q plan.lower.items plan.choices.items plan.ranks.items fault.state fault.cause

-- This is the first fault of a plan.
abbrev pub IsFaultOf : Query → Plan → AuditFault → Type 0
IsFaultOf q plan (Text fault) = ⊥
IsFaultOf q plan (Upper fault) = IsUpperFault q plan.upper.items fault.state fault.cause ⊎ IsReplyFault q plan fault
IsFaultOf q plan (Ranks fault) = IsLowerFault q plan fault

-- The text has a certificate, and its plan has this fault.
pub record IsFaulty (q : Query) (text : List ℕ) (fault : AuditFault) : Type 0 where
  pub plan : Plan
  pub read : IsSaid q text plan
  pub first : IsFaultOf q plan fault

-- This is the first fault of a text.
abbrev pub IsRefused : Query → List ℕ → AuditFault → Type 0
IsRefused q text (Text fault) = entries_said text (states q) ≡ Err fault
IsRefused q text (Upper fault) = IsFaulty q text (Upper fault)
IsRefused q text (Ranks fault) = IsFaulty q text (Ranks fault)

-- Memory ran out.
abbrev pub IsOutOfMemory : AuditFault → Type 0
IsOutOfMemory fault = fault ≡ Text (fault_at 0 OutOfMemory)
