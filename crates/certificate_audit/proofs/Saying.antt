-- What is read of a text is what it says, and a fault of that plan is one of the text.
use Rattle.std.proofs.Common.{◌≡◌, ℕ, List, Ok, subst}
use Rattle.game_model.specs.Query.{Query, states}
use Rattle.plan_text.specs.declared.plan.Plan.{Plan}
use Rattle.plan_text.specs.Entries.{HasStates, entries_of}
use Rattle.plan_text.specs.Said.{entries_said}
use Rattle.plan_text.proofs.Certificates.{what_is_read}
use Rattle.certificate_audit.specs.declared.fault.AuditFault.{AuditFault}
use Rattle.certificate_audit.specs.declared.fault.AuditFault.TheVariants.{Text, Upper, Ranks}
use Rattle.certificate_audit.specs.Accepted.{IsSaid}
use Rattle.certificate_audit.specs.Refused.{IsFaultOf, IsRefused}

pub read-said : (q : Query) (text : List ℕ) (plan : Plan) (n : ℕ) → n ≡ states q → HasStates plan n
    → entries_said text n ≡ Ok (entries_of plan) → IsSaid q text plan
read-said q text plan n all has read = record {
  lists = subst (λ k. HasStates plan k) all has;
  said = (what_is_read text n (entries_of plan) read).1;
}

pub fault-refused : (q : Query) (text : List ℕ) (plan : Plan) (fault : AuditFault) → IsSaid q text plan
    → IsFaultOf q plan fault → IsRefused q text fault
fault-refused q text plan (Text fault) said is = absurd is
fault-refused q text plan (Upper fault) said is = record { plan = plan; read = said; first = is }
fault-refused q text plan (Ranks fault) said is = record { plan = plan; read = said; first = is }
