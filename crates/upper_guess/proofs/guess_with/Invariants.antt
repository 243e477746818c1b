use Rattle.std.proofs.Common.{ℕ, ◌<◌, ◌≤◌}
use Rattle.std.specs.Prelude.{slice_index}
use Rattle.upper_guess.specs.Guess.{excess, AreRefused, AreWitnesses}
use Rattle.upper_guess.proofs.guess_with.Given as goal

abbrev pub invariant-loop-place : goal.invariant-loop-place
invariant-loop-place t l = record {
  witnesses : AreWitnesses l.question l.witnesses.states;
  refused : (i : ℕ) → i < l.place → AreRefused l.question l.zero (slice_index l.lower) (excess i);
}
