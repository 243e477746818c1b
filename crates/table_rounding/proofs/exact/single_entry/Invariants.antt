use Rattle.std.proofs.Common.{◌<◌, IfSome, length}
use Rattle.game_model.specs.Game.{choices_of}
use Rattle.table_rounding.proofs.exact.single_entry.Given as goal

abbrev pub invariant-loop-choice : goal.invariant-loop-choice
invariant-loop-choice l = IfSome l.best (λ e. e.choice < length (choices_of l.question.game l.state))
