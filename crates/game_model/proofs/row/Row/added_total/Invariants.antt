use Rattle.std.proofs.Common.{◌≡◌, take}
use Rattle.game_model.specs.Game.{choice_among, total_of}
use Rattle.game_model.proofs.row.Row.added_total.Given as goal

-- the weights so far are added up
abbrev pub invariant-loop-place : goal.invariant-loop-place
invariant-loop-place l = l.total ≡ total_of (take l.place (choice_among l.self l.choice).edges)
