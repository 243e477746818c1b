-- The text of a certificate that is accepted is audited.
use Rattle.std.proofs.Common.{ℕ, List, Option}
use Rattle.game_outside.specs.Outside.{Holding}
use Rattle.game_model.specs.Query.{Query}
use Rattle.formula_reader.specs.Formula.{Tree}
use Rattle.plan_text.specs.declared.plan.Plan.{Plan}
use Rattle.certificate_audit.specs.Accepted.{IsAccepted}
use Rattle.inputs.specs.Asks.{GivenTextWith}
use Rattle.inputs.specs.Sources.{SourceWith}
use Rattle.output.specs.declared.status.Status.{Status}
use Rattle.reports.specs.Audits.{IsAudited, IsAudit}

pub accepted_audited : (holding : Option Holding) (name : List ℕ) (q : Query)
    (initial : List ℕ) (f : Tree) (plan : Plan) (text : List ℕ) (status : Status)
    → SourceWith holding name (λ source. GivenTextWith source (λ bytes. IsAccepted q bytes plan))
    → IsAudited q initial f plan text status
    → SourceWith holding name (λ source. GivenTextWith source (λ bytes. IsAudit q initial f bytes text status))
accepted_audited holding name q initial f plan text status has audited =
    let of = has.is_so in
    record {
      source = has.source;
      told = has.told;
      is_so = record {
        text = of.text;
        given = of.given;
        short = of.short;
        is_so = record { plan = plan; accepted = of.is_so; audited = audited };
      };
    }
