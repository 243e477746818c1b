use Rattle.std.proofs.Common.{◌∙◌, List, ℕ, ap}
use Rattle.std.specs.Prelude.{slice_index}
use Rattle.std.proofs.lemmas.Result.{IfOk-weaker}
use Rattle.game_model.specs.Rounded.{opening}
use Rattle.bounded_rounds.proofs.Parts.{IsSweep-same}
use Rattle.bounded_rounds.proofs.values.bounded_values.Goals as goal

pub returns-clause-sweep : goal.returns-clause-sweep
returns-clause-sweep g c =
    let q = c.args.question.now in
    IfOk-weaker c.bounded.result _ _ (λ sweep swept. IsSweep-same q (slice_index c.deref.result.now)
    (opening q) c.args.steps sweep.lower.items sweep.upper.items c.invariant.ensures
    (λ s inside. ap (λ (xs : List ℕ). slice_index xs s) c.deref.ensures.value ∙ c.in_ok-table.ensures.each s inside)
    swept) c.bounded.ensures.sweep
