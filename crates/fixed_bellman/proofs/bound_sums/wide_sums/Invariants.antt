use Rattle.std.proofs.Common.{take}
use Rattle.game_model.specs.Game.{choice_among}
use Rattle.fixed_bellman.specs.Sums.{AreSums}
use Rattle.fixed_bellman.proofs.bound_sums.wide_sums.Given as goal

abbrev pub invariant-loop-place : goal.invariant-loop-place
invariant-loop-place l = AreSums (take l.place (choice_among l.row l.choice).edges) l.table l.lower l.upper
