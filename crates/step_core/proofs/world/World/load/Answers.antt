use Rattle.std.proofs.Common.{inr, []}
use Rattle.std.proofs.lemmas.Result.{err_from_is_err_and}
use Rattle.step_core.proofs.world.World.load.Goals as goal

pub returns-in_err-named-clause-answer : goal.returns-in_err-named-clause-answer
returns-in_err-named-clause-answer c =
    let p = err_from_is_err_and c.from_residual.result c.from_residual.ensures.1 in
    rw (p.1, p.2) (inr (c.in_err-named.ensures.err []))
