use Rattle.std.proofs.Common.{inl, inr}
use Rattle.reward_inputs.proofs.Leaving.{of_end}
use Rattle.reward_app.proofs.certificate.certificate_in.Goals as goal

pub returns-in-Err-clause-refused : goal.returns-in-Err-clause-refused
returns-in-Err-clause-refused c = λ refusal is.
    let e = c.end_of.ensures.refused refusal (of_end _ _ is) in (
      c.in-Err.fault,
      e.0,
      elim c.in-Err.ensures.refused [
        | inl memory ↦ absurd (e.1 memory)
        | inr refused ↦ refused
      ],
    )

pub returns-in-Ok-clause-certified : goal.returns-in-Ok-clause-certified
returns-in-Ok-clause-certified c =
    let e = c.in-Ok.ensures in
    record {
      places = e.places;
      lists = e.accepted.read.lists;
      lower = e.units.0;
      upper = e.units.1;
      low = e.low;
      high = e.high;
      passes = e.accepted.passes;
    }
