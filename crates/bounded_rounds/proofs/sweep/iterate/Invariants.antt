use Rattle.std.proofs.Common.{◌≡◌, ◌≤◌, length}
use Rattle.std.specs.Prelude.{slice_index}
use Rattle.game_model.specs.Query.{states}
use Rattle.fixed_bellman.specs.Bounds.{lowers, uppers}
use Rattle.bounded_rounds.specs.inside.Parts.{IsBoundsTable}
use Rattle.bounded_rounds.specs.Steps.{IsSweep}
use Rattle.bounded_rounds.proofs.sweep.iterate.Given as goal

abbrev pub invariant-loop-done : goal.invariant-loop-done
invariant-loop-done g l = record {
  sweep : IsSweep l.question (slice_index (lowers l.fn.table.items)) l._done (lowers l.table.items)
      (uppers l.table.items);
  table : IsBoundsTable l.question l.table.items;
  next : length l.next.items ≡ states l.question;
  used : 1 ≤ l.used;
}
