use Rattle.std.proofs.Common.{arith}
use Rattle.game_model.proofs.Rows.{row-count, fine}
use Rattle.game_model.proofs.row.Row.invariant.Goals as goal

pub returns-clause-some : goal.returns-clause-some
returns-clause-some c = omega (arith, c.self.invariant.some, row-count _ _ _ _ _ _ c.self.view_is)

pub returns-clause-distributions : goal.returns-clause-distributions
returns-clause-distributions c d inside = fine _ _ _ _ _ _ c.self.view_is c.self.invariant d inside
