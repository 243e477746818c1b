use Rattle.std.proofs.Common.{◌≡◌, ◌≤◌, ◌+◌, ◌-◌, true, false, length}
use Rattle.text_lines.specs.Text.{significant}
use Rattle.game_outside.specs.Outside.{KeepsShelf, Holds}
use Rattle.text_lines.specs.Blank.{IsRightFor}
use Rattle.game_outside.proofs.PartRead.{IsPartRead}
use Rattle.game_outside.proofs.file.read_lines_from.Given as goal

abbrev pub invariant-loop-feeder : goal.invariant-loop-feeder
invariant-loop-feeder g l = record {
  part : IsPartRead (g.H.Shelf.held l.fn.shelf) l.name
      (λ lines answer. g.R.LineReader.answers l.fn.reader 1 (significant lines) answer) (g.H.Shelf.rest l.shelf) l.text
      (IsRightFor g.R.LineReader.answers l.feeder.reader l.feeder.next l.feeder.blanks);
  going : l.text.closed ≡ false;
  limit : l.text.limit ≡ l.limit;
  taken : l.text.taken ≡ g.H.Shelf.taken l.shelf;
  within : l.text.taken ≤ l.limit;
  lines : l.feeder.next + l.feeder.blanks + length l.text.held ≤ l.text.taken + 1;
  kept : KeepsShelf (g.H.Shelf.held l.fn.shelf) (g.H.Shelf.held l.shelf) (g.H.Shelf.steady l.fn.shelf)
      (g.H.Shelf.steady l.shelf) (g.H.Shelf.faults l.fn.shelf) (g.H.Shelf.faults l.shelf);
  quiet : g.H.Shelf.steady l.fn.shelf ≡ true → Holds (g.H.Shelf.held l.fn.shelf) l.name
      → g.H.Shelf.faults l.shelf ≡ g.H.Shelf.faults l.fn.shelf;
}

abbrev pub decreases-loop-feeder : goal.decreases-loop-feeder
decreases-loop-feeder g l = l.limit + 1 + length l.text.held - l.text.taken
