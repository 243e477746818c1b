use Rattle.std.proofs.Common.{ℕ, ◌<◌, ◌≤◌}
use Rattle.std.specs.Prelude.{IfSome}
use Rattle.upper_guess.specs.Guess.{AreWitnesses}
use Rattle.upper_guess.specs.inside.OfGuesses.{IsTableOf, IsRefusedOf}
use Rattle.upper_guess.proofs.guesses.Guesses.first_accepted.Given as goal

abbrev pub invariant-loop-steps : goal.invariant-loop-steps
invariant-loop-steps t l = record {
  made : IfSome l.made (λ m. IsTableOf l.self m.1 m.0.items × (m.1 ≤ l.steps));
  witnesses : AreWitnesses l.self.question.now l.witnesses.states;
  refused : (j : ℕ) → j < l.steps → IsRefusedOf l.self j;
}
