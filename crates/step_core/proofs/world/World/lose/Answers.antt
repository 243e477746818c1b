use Rattle.std.proofs.Common.{inr, [], ◌∷◌}
use Rattle.std.specs.Prelude.{slice_index, ◌==◌}
use Rattle.step_core.specs.declared.event.Refused.TheVariants.{SameWord}
use Rattle.step_core.specs.Configuration.{seen_by}
use Rattle.std.proofs.lemmas.Result.{err_from_is_err_and}
use Rattle.step_core.proofs.world.World.lose.Goals as goal

pub returns-in_err-named-clause-answer : goal.returns-in_err-named-clause-answer
returns-in_err-named-clause-answer c =
    let p = err_from_is_err_and c.from_residual.result c.from_residual.ensures.1 in
    rw (p.1, p.2) (inr (c.in_err-named.ensures.err ((
      slice_index c.args.self.now.words c.args.state == slice_index (seen_by c.args.self.now c.args.view) c.args.state,
      SameWord,
    ) ∷ [])))
