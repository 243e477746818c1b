use Rattle.std.proofs.Common.{◌≡◌, ◌+◌, ◌*◌, take}
use Rattle.game_model.specs.Game.{choices_of}
use Rattle.game_model.specs.Values.{optimum}
use Rattle.game_model.specs.Rounded.{down_value}
use Rattle.fixed_bellman.specs.Sums.{IsSumBetween}
use Rattle.lower_guess.specs.inside.OfGuesses.{entry_of, choice_at}
use Rattle.lower_guess.proofs.guesses.Guesses.+local.Given as goal

abbrev pub decreases-entry : goal.decreases-entry
decreases-entry l = 5 * l.steps

abbrev pub decreases-best : goal.decreases-best
decreases-best l = 5 * l.steps + 3

abbrev pub decreases-value : goal.decreases-value
decreases-value l = 5 * l.steps + 2

abbrev pub decreases-sum : goal.decreases-sum
decreases-sum l = 5 * l.steps + 1

abbrev pub invariant-best-loop-choice : goal.invariant-best-loop-choice
invariant-best-loop-choice l = l.best ≡ optimum l.side (down_value (entry_of l.self l.steps))
    (take l.choice (choices_of l.self.question.now.game l.state))

abbrev pub invariant-sum-loop-place : goal.invariant-sum-loop-place
invariant-sum-loop-place l = IsSumBetween (take l.place (choice_at l.self l.state l.choice).edges)
    (entry_of l.self l.steps) (entry_of l.self l.steps) l.sum

abbrev pub decreases-step : goal.decreases-step
decreases-step l = 5 * l.steps + 4
