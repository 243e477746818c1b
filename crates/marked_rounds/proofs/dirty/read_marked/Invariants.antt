use Rattle.std.proofs.Common.{◌≡◌, ℕ, ◌-◌, ◌<◌, ◌≤◌, false, slice_index_or}
use Rattle.game_model.specs.Query.{states}
use Rattle.value_words.specs.Passes.{Looked, seen_by}
use Rattle.marked_rounds.specs.DirtySet.{IsSized}
use Rattle.marked_rounds.proofs.Reading.{IsReadBelow}
use Rattle.marked_rounds.proofs.dirty.read_marked.Given as goal

abbrev pub invariant-loop-state : goal.invariant-loop-state
invariant-loop-state g l = record {
  within : l.state ≤ states g.P.Posing.posed;
  looked : Looked l.fn.pass l.pass;
  sized : IsSized g.P.Posing.posed l.dirty;
  read : IsReadBelow l.state l.fn.dirty l.dirty (seen_by l.fn.pass) (seen_by l.pass);
  whole : l.dirty.whole ≡ l.fn.dirty.whole;
  none : l.changed ≡ 0 → (s : ℕ) → s < l.state → slice_index_or l.dirty.more.items s false ≡ false;
}

abbrev pub decreases-loop-state : goal.decreases-loop-state
decreases-loop-state g l = states g.P.Posing.posed - l.state
