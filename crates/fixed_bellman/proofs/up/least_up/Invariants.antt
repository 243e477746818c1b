use Rattle.std.proofs.Common.{◌≡◌, ◌≤◌, take, fold}
use Rattle.std.specs.Prelude.{slice_index}
use Rattle.game_model.specs.Game.{choices_of}
use Rattle.game_model.specs.declared.game.Side.TheVariants.{Min}
use Rattle.game_model.specs.Values.{better}
use Rattle.game_model.specs.Limits.{unit}
use Rattle.game_model.specs.Rounded.{up_value}
use Rattle.fixed_bellman.proofs.up.least_up.Given as goal

abbrev pub invariant-loop-choice : goal.invariant-loop-choice
invariant-loop-choice l = record {
  value : l.best ≡ fold (λ best choice. better Min best (up_value (slice_index l.table) choice)) unit
      (take l.choice (choices_of l.question.game l.state));
  units : l.best ≤ unit;
}
