use Rattle.std.proofs.Common.{◌≡◌, take, fold}
use Rattle.std.specs.Prelude.{slice_index}
use Rattle.game_model.specs.Game.{choices_of}
use Rattle.game_model.specs.declared.game.Side.TheVariants.{Min}
use Rattle.game_model.specs.Values.{better}
use Rattle.game_model.specs.Limits.{unit}
use Rattle.game_model.specs.Rounded.{down_value, up_value}
use Rattle.fixed_bellman.specs.Bounds.{lowers, uppers, AreUnits}
use Rattle.fixed_bellman.proofs.bounds.least_bounds.Given as goal

abbrev pub invariant-loop-choice : goal.invariant-loop-choice
invariant-loop-choice l = record {
  lower : l.lower ≡ fold (λ best choice. better Min best (down_value (slice_index (lowers l.table)) choice)) unit
      (take l.choice (choices_of l.question.game l.state));
  upper : l.upper ≡ fold (λ best choice. better Min best (up_value (slice_index (uppers l.table)) choice)) unit
      (take l.choice (choices_of l.question.game l.state));
  units : AreUnits (record { lower = l.lower; upper = l.upper });
}
