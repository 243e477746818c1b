use Rattle.std.proofs.Common.{arith}
use Rattle.game_model.proofs.Rows.{row-count, bound-inside, edges-count}
use Rattle.game_model.proofs.row.Row.edge_count.Goals as goal

pub bounds-self-inside-choice : goal.bounds-self-inside-choice
bounds-self-inside-choice c = omega (arith, row-count _ _ _ _ _ _ c.self.view_is, c.requires)

pub bounds-self-inside-choice-2 : goal.bounds-self-inside-choice-2
bounds-self-inside-choice-2 c = omega (arith, row-count _ _ _ _ _ _ c.self.view_is, c.requires)

pub overflow_sub-result : goal.overflow_sub-result
overflow_sub-result c = c.self.invariant.ends _ (bound-inside _ _ _ _ _ _ c.self.view_is _ c.requires)

pub returns : goal.returns
returns c = edges-count _ _ _ _ _ _ c.self.view_is _ c.requires
