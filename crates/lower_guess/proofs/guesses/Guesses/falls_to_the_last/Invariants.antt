use Rattle.std.proofs.Common.{◌-◌}
use Rattle.lower_guess.proofs.guesses.Guesses.falls_to_the_last.Given as goal

abbrev pub decreases-loop-state : goal.decreases-loop-state
decreases-loop-state l = l.states - l.state
