use Rattle.std.proofs.Common.{◌≡◌, ℕ, ◌<◌, ◌≤◌, length}
use Rattle.std.specs.Prelude.{slice_index, All}
use Rattle.game_model.specs.Limits.{unit}
use Rattle.lower_guess.specs.inside.OfGuesses.{first_entry_of}
use Rattle.lower_guess.proofs.guesses.Guesses.first_table.Given as goal

abbrev pub invariant-loop-state : goal.invariant-loop-state
invariant-loop-state l = record {
  many : length l.table.items ≡ l.state;
  units : All (λ v. v ≤ unit) l.table.items;
  each : (s : ℕ) → s < l.state → slice_index l.table.items s ≡ first_entry_of l.self s;
}
