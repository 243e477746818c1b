-- A text has one answer for a question.
use Rattle.std.proofs.Common.{◌≡◌, ◌∙◌, ℕ, List, Result, Ok, Err, ap, sym}
use Rattle.game_model.specs.Query.{Query, states}
use Rattle.plan_text.specs.declared.plan.Plan.{Plan}
use Rattle.plan_text.specs.declared.fault.PlanFault.{PlanFault}
use Rattle.plan_text.specs.Entries.{Entry, entries_of}
use Rattle.plan_text.specs.Said.{entries_said}
use Rattle.plan_text.proofs.Plans.{length-entries_of}
use Rattle.plan_text.proofs.Certificates.{what_is_told}
use Rattle.certificate_audit.specs.declared.fault.AuditFault.{AuditFault}
use Rattle.certificate_audit.specs.declared.fault.AuditFault.TheVariants.{Text, Upper, Ranks}
use Rattle.certificate_audit.specs.Accepted.{IsSaid, IsAccepted}
use Rattle.certificate_audit.specs.Refused.{IsFaultOf, IsFaulty, IsRefused}
use Rattle.certificate_audit.proofs.SamePlans.{same_lists_of, same_fault}
use Rattle.certificate_audit.proofs.OneFault.{fault-passes, fault-one}

-- what a text says is read
said-read : (q : Query) (text : List ℕ) (plan : Plan) → IsSaid q text plan
    → entries_said text (states q) ≡ Ok (entries_of plan)
said-read q text plan is =
    what_is_told text (states q) (entries_of plan) (length-entries_of plan (states q) is.lists) is.said

said-no_fault : (q : Query) (text : List ℕ) (plan : Plan) (fault : PlanFault) → IsSaid q text plan
    → ¬ (entries_said text (states q) ≡ Err fault)
said-no_fault q text plan fault is at_fault =
    let both : Ok (entries_of plan) ≡ Err fault = sym (said-read q text plan is) ∙ at_fault in
    cc

said-one : (q : Query) (text : List ℕ) (plan other : Plan) → IsSaid q text plan → IsSaid q text other
    → entries_of plan ≡ entries_of other
said-one q text plan other is is_other =
    let both : ◌≡◌ {A = Result (List Entry) PlanFault} (Ok (entries_of plan)) (Ok (entries_of other)) =
    sym (said-read q text plan is) ∙ said-read q text other is_other in
    cc

pub accepted-one : (q : Query) (text : List ℕ) (plan other : Plan) → IsAccepted q text plan → IsAccepted q text other
    → entries_of plan ≡ entries_of other
accepted-one q text plan other is is_other = said-one q text plan other is.read is_other.read

-- a fault of the certificate's plan is one of each plan with its entries
faulty-moved : (q : Query) (text : List ℕ) (plan : Plan) (fault : AuditFault) → IsSaid q text plan
    → (is : IsFaulty q text fault) → IsFaultOf q plan fault
faulty-moved q text plan fault said is =
    same_fault q is.plan plan (same_lists_of is.plan plan (states q) is.read.lists said.lists
    (said-one q text is.plan plan is.read said)) fault is.first

faulty-one : (q : Query) (text : List ℕ) (fault other : AuditFault) → IsFaulty q text fault
    → IsFaulty q text other → fault ≡ other
faulty-one q text fault other is is_other =
    fault-one q is.plan fault other is.first (faulty-moved q text is.plan other is.read is_other)

text-one : (said : Result (List Entry) PlanFault) (fault other : PlanFault) → said ≡ Err fault → said ≡ Err other
    → Text fault ≡ Text other
text-one said fault other is is_other =
    let both : ◌≡◌ {A = Result (List Entry) PlanFault} (Err fault) (Err other) = sym is ∙ is_other in
    let same : fault ≡ other = cc in
    ap (λ f. Text f) same

pub refused-one : (q : Query) (text : List ℕ) (fault other : AuditFault) → IsRefused q text fault
    → IsRefused q text other → fault ≡ other
refused-one q text (Text fault) (Text other) is is_other =
    text-one (entries_said text (states q)) fault other is is_other
refused-one q text (Text fault) (Upper other) is is_other =
    absurd (said-no_fault q text is_other.plan fault is_other.read is)
refused-one q text (Text fault) (Ranks other) is is_other =
    absurd (said-no_fault q text is_other.plan fault is_other.read is)
refused-one q text (Upper fault) (Text other) is is_other = absurd (said-no_fault q text is.plan other is.read is_other)
refused-one q text (Upper fault) (Upper other) is is_other = faulty-one q text (Upper fault) (Upper other) is is_other
refused-one q text (Upper fault) (Ranks other) is is_other = faulty-one q text (Upper fault) (Ranks other) is is_other
refused-one q text (Ranks fault) (Text other) is is_other = absurd (said-no_fault q text is.plan other is.read is_other)
refused-one q text (Ranks fault) (Upper other) is is_other = faulty-one q text (Ranks fault) (Upper other) is is_other
refused-one q text (Ranks fault) (Ranks other) is is_other = faulty-one q text (Ranks fault) (Ranks other) is is_other

faulty-refused : (q : Query) (text : List ℕ) (plan : Plan) (fault : AuditFault) → IsAccepted q text plan
    → ¬ IsFaulty q text fault
faulty-refused q text plan fault is faulty =
    fault-passes q plan fault is.read.lists is.passes (faulty-moved q text plan fault is.read faulty)

pub accepted-not_refused : (q : Query) (text : List ℕ) (plan : Plan) (fault : AuditFault) → IsAccepted q text plan
    → ¬ IsRefused q text fault
accepted-not_refused q text plan (Text fault) is refused = said-no_fault q text plan fault is.read refused
accepted-not_refused q text plan (Upper fault) is refused = faulty-refused q text plan (Upper fault) is refused
accepted-not_refused q text plan (Ranks fault) is refused = faulty-refused q text plan (Ranks fault) is refused
