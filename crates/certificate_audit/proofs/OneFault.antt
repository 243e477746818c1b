-- A plan has one fault at most, and none where it passes.
use Rattle.std.proofs.Common.{◌≡◌, ◌∙◌, ◌<◌, ◌≤◌, ℕ, List, ap, sym, inl, inr, arith}
use Rattle.std.specs.Prelude.{slice_index, All}
use Rattle.std.proofs.lemmas.Bool.{cases_order}
use Rattle.game_model.specs.Query.{Query, states}
use Rattle.game_model.specs.Limits.{unit}
use Rattle.game_model.specs.Rounded.{IsInductive}
use Rattle.game_model.specs.Ranks.{Ranked}
use Rattle.inductive_check.specs.declared.upper.UpperFault.{UpperFault}
use Rattle.inductive_check.specs.declared.upper.UpperCause.{UpperCause}
use Rattle.inductive_check.specs.declared.upper.UpperCause.TheVariants.{OverOne, Goal, Above, NoReply, Reply}
use Rattle.inductive_check.specs.Faults.{IsUpperFault, IsNotInductiveAt}
use Rattle.inductive_check.specs.Replies.{AreReplies, IsFirstWithoutReply}
use Rattle.inductive_check.proofs.Causes.{upper_fault-one}
use Rattle.rank_certificate.specs.declared.check.RankFault.{RankFault}
use Rattle.rank_certificate.specs.declared.check.RankCause.{RankCause}
use Rattle.rank_certificate.specs.declared.check.RankCause.TheVariants.{Value, Choice, Short, NoStep}
use Rattle.rank_certificate.specs.Ranking.{IsRankedAt}
use Rattle.rank_certificate.specs.Faults.{IsFirstUnranked, IsRankFault}
use Rattle.rank_certificate.proofs.Causes.{cause-unranked, rank_fault-one}
use Rattle.plan_text.specs.declared.plan.Plan.{Plan}
use Rattle.plan_text.specs.Entries.{HasStates}
use Rattle.certificate_audit.specs.declared.fault.AuditFault.{AuditFault}
use Rattle.certificate_audit.specs.declared.fault.AuditFault.TheVariants.{Text, Upper, Ranks}
use Rattle.certificate_audit.specs.Accepted.{Passes}
use Rattle.certificate_audit.specs.Refused.{IsReplyFault, IsLowerFault, IsFaultOf}

-- an inductive table has no fault
raised-passes : (q : Query) (upper : List ℕ) (s : ℕ) (cause : UpperCause) → IsInductive q (slice_index upper)
    → ¬ IsNotInductiveAt q upper s cause
raised-passes q upper s cause inductive is = omega (arith, inductive s is.first.inside, is.first.above)

upper-passes : (q : Query) (upper : List ℕ) (s : ℕ) (cause : UpperCause) → All (λ v. v ≤ unit) upper
    → IsInductive q (slice_index upper) → ¬ IsUpperFault q upper s cause
upper-passes q upper s OverOne units inductive is = omega (arith, units s 0 is.inside, is.over)
upper-passes q upper s Goal units inductive is = raised-passes q upper s Goal inductive is
upper-passes q upper s (Above c) units inductive is = raised-passes q upper s (Above c) inductive is
upper-passes q upper s NoReply units inductive is = raised-passes q upper s NoReply inductive is
upper-passes q upper s Reply units inductive is = is

-- replies that are held have no fault
replies-pass : (q : Query) (plan : Plan) (fault : UpperFault)
    → AreReplies q (slice_index plan.upper.items) plan.replies.items → ¬ IsReplyFault q plan fault
replies-pass q plan fault are is = is.first.none (are fault.state is.first.inside is.first.needs)

-- the first state without a reply is one
without_reply-one : (q : Query) (plan : Plan) (s t : ℕ)
    → IsFirstWithoutReply q (slice_index plan.upper.items) plan.replies.items s
    → IsFirstWithoutReply q (slice_index plan.upper.items) plan.replies.items t → s ≡ t
without_reply-one q plan s t here there = elim (cases_order s t) [
  | inl same ↦ same
  | inr apart ↦ elim apart [
    | inl less ↦ absurd (here.none (there.before s less here.needs))
    | inr more ↦ absurd (there.none (here.before t more there.needs))
  ]
]

upper_fault : (fault other : UpperFault) → fault.state ≡ other.state → fault.cause ≡ other.cause
    → Upper fault ≡ Upper other
upper_fault fault other at why = ap (λ s. Upper (record { state = s; cause = fault.cause })) at
    ∙ ap (λ c. Upper (record { state = other.state; cause = c })) why

ranks_fault : (fault other : RankFault) → fault.state ≡ other.state → fault.cause ≡ other.cause
    → Ranks fault ≡ Ranks other
ranks_fault fault other at why = ap (λ s. Ranks (record { state = s; cause = fault.cause })) at
    ∙ ap (λ c. Ranks (record { state = other.state; cause = c })) why

-- tables, choices and ranks that go together have no fault
ranked-at : (q : Query) (plan : Plan) (s : ℕ) → Ranked q plan.lower.items plan.choices.items plan.ranks.items
    → s < states q → IsRankedAt q (slice_index plan.lower.items) (slice_index plan.ranks.items) plan.choices.items s
ranked-at q plan s ranked inside = record {
  goal = ranked.goals s inside;
  dead = ranked.deads s inside;
  greatest = λ needs max. let free = needs.free in ranked.greatest s inside free.0 free.1 needs.positive max;
  least = λ needs min c. let free = needs.free in ranked.least s inside free.0 free.1 needs.positive min c;
}

unranked-passes : (q : Query) (plan : Plan) (s : ℕ) (cause : RankCause)
    → Ranked q plan.lower.items plan.choices.items plan.ranks.items
    → ¬ IsFirstUnranked q plan.lower.items plan.choices.items plan.ranks.items s cause
unranked-passes q plan s cause ranked is =
    cause-unranked q (slice_index plan.lower.items) (slice_index plan.ranks.items) plan.choices.items s cause is.caused
    (ranked-at q plan s ranked is.inside)

ranks-pass : (q : Query) (plan : Plan) (s : ℕ) (cause : RankCause) → HasStates plan (states q)
    → Ranked q plan.lower.items plan.choices.items plan.ranks.items
    → ¬ IsRankFault q plan.lower.items plan.choices.items plan.ranks.items s cause
ranks-pass q plan s Value has ranked (inl over) =
    omega (arith, ranked.units s (omega (arith, over.inside, has.lower)), over.over)
ranks-pass q plan s Value has ranked (inr is) = unranked-passes q plan s Value ranked is
ranks-pass q plan s Choice has ranked is = unranked-passes q plan s Choice ranked is
ranks-pass q plan s (Short c) has ranked is = unranked-passes q plan s (Short c) ranked is
ranks-pass q plan s (NoStep c) has ranked is = unranked-passes q plan s (NoStep c) ranked is

pub fault-passes : (q : Query) (plan : Plan) (fault : AuditFault) → HasStates plan (states q) → Passes q plan
    → ¬ IsFaultOf q plan fault
fault-passes q plan (Text fault) has passes is = is
fault-passes q plan (Upper fault) has passes (inl is) =
    upper-passes q plan.upper.items fault.state fault.cause passes.units passes.inductive is
fault-passes q plan (Upper fault) has passes (inr is) = replies-pass q plan fault passes.replies is
fault-passes q plan (Ranks fault) has passes is = ranks-pass q plan fault.state fault.cause has passes.ranked is.first

upper-lower : (q : Query) (plan : Plan) (fault : UpperFault) (other : RankFault) → IsFaultOf q plan (Upper fault)
    → ¬ IsLowerFault q plan other
upper-lower q plan fault other (inl is) lower =
    upper-passes q plan.upper.items fault.state fault.cause lower.units lower.inductive is
upper-lower q plan fault other (inr is) lower = replies-pass q plan fault lower.replies is

uppers-one : (q : Query) (plan : Plan) (fault other : UpperFault) → IsFaultOf q plan (Upper fault)
    → IsFaultOf q plan (Upper other) → Upper fault ≡ Upper other
uppers-one q plan fault other (inl is) (inl is_other) =
    let one = upper_fault-one q plan.upper.items fault.state other.state fault.cause other.cause is is_other in
    upper_fault fault other one.0 one.1
uppers-one q plan fault other (inl is) (inr reply) =
    absurd (upper-passes q plan.upper.items fault.state fault.cause reply.units reply.inductive is)
uppers-one q plan fault other (inr reply) (inl is) =
    absurd (upper-passes q plan.upper.items other.state other.cause reply.units reply.inductive is)
uppers-one q plan fault other (inr is) (inr is_other) = upper_fault fault other
    (without_reply-one q plan fault.state other.state is.first is_other.first) (is.cause ∙ sym is_other.cause)

pub fault-one : (q : Query) (plan : Plan) (fault other : AuditFault) → IsFaultOf q plan fault
    → IsFaultOf q plan other → fault ≡ other
fault-one q plan (Text fault) other is is_other = absurd is
fault-one q plan (Upper fault) (Text other) is is_other = absurd is_other
fault-one q plan (Upper fault) (Upper other) is is_other = uppers-one q plan fault other is is_other
fault-one q plan (Upper fault) (Ranks other) is is_other = absurd (upper-lower q plan fault other is is_other)
fault-one q plan (Ranks fault) (Text other) is is_other = absurd is_other
fault-one q plan (Ranks fault) (Upper other) is is_other = absurd (upper-lower q plan other fault is_other is)
fault-one q plan (Ranks fault) (Ranks other) is is_other =
    let one = rank_fault-one q plan.lower.items plan.choices.items plan.ranks.items fault.state other.state fault.cause
    other.cause is.first is_other.first in
    ranks_fault fault other one.0 one.1
