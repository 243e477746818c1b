use Rattle.std.proofs.Common.{◌≡◌, ℕ, ◌<◌, ◌≤◌}
use Rattle.std.specs.Prelude.{slice_index}
use Rattle.step_core.specs.Word.{greater_words}
use Rattle.step_core.proofs.view.take_greater.Given as goal

abbrev pub invariant-loop-state : goal.invariant-loop-state
invariant-loop-state l = record {
  taken : (s : ℕ) → s < l.state → slice_index l.words s ≡ slice_index (greater_words l.initial.words l.others) s;
  rest : (s : ℕ) → l.state ≤ s → slice_index l.words s ≡ slice_index l.initial.words s;
}
