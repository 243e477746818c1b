use Rattle.std.proofs.Common.{◌≡◌, ℕ, ◌<◌, ◌≤◌, length}
use Rattle.std.specs.Prelude.{slice_index, All}
use Rattle.game_model.specs.Limits.{unit}
use Rattle.lower_guess.specs.LowerGuess.{lesser_step}
use Rattle.lower_guess.proofs.lesser.lesser_table.Given as goal

abbrev pub invariant-loop-state : goal.invariant-loop-state
invariant-loop-state l = record {
  many : length l.next.items ≡ l.state;
  units : All (λ v. v ≤ unit) l.next.items;
  each : (s : ℕ) → s < l.state → slice_index l.next.items s ≡ lesser_step l.question (slice_index l.table) s;
}
