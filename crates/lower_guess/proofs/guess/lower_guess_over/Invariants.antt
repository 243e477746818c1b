use Rattle.std.proofs.Common.{ℕ, ◌<◌}
use Rattle.std.specs.Prelude.{slice_index}
use Rattle.lower_guess.specs.LowerGuess.{excess, AreRefused}
use Rattle.lower_guess.proofs.guess.lower_guess_over.Given as goal

abbrev pub invariant-loop-place : goal.invariant-loop-place
invariant-loop-place l = (i : ℕ) → i < l.place → AreRefused l.question l.zero (slice_index l.base) (excess i)
