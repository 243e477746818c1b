use Rattle.upper_guess.specs.inside.OfGuesses.{IsTableOf}
use Rattle.upper_guess.proofs.guesses.Guesses.table_after.Given as goal

abbrev pub invariant-loop-step : goal.invariant-loop-step
invariant-loop-step t l = IsTableOf l.self l._step l.table.items
