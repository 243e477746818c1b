use Rattle.std.proofs.Common.{ℕ, ◌<◌, ◌≤◌}
use Rattle.std.specs.Prelude.{slice_index}
use Rattle.game_model.specs.Game.{choice_among}
use Rattle.game_model.specs.Rounded.{down_value}
use Rattle.fixed_bellman.proofs.settling.some_above.Given as goal

abbrev pub invariant-loop-choice : goal.invariant-loop-choice
invariant-loop-choice l = (c : ℕ) → c < l.choice → down_value (slice_index l.table) (choice_among l.row c) ≤ l.floor
