use Rattle.std.proofs.Common.{◌≡◌, ℕ, ◌<◌, ◌≤◌, slice_index}
use Rattle.game_model.specs.Limits.{unit}
use Rattle.value_words.specs.Passes.{Looked, seen_by}
use Rattle.value_words.proofs.table.ValueTable+P.read_into.Given as goal

abbrev pub invariant-loop-state : goal.invariant-loop-state
invariant-loop-state g l = record {
  looked : Looked l.fn.pass l.pass;
  read : (s : ℕ) → s < l.state → slice_index l.table s ≡ seen_by l.pass s;
  units : (s : ℕ) → s < l.state → slice_index l.table s ≤ unit;
}
