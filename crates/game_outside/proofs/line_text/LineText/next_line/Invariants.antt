use Rattle.std.proofs.Common.{◌≡◌, ◌+◌, ◌-◌, true, false}
use Rattle.game_outside.specs.Outside.{KeepsShelf}
use Rattle.game_outside.specs.LineTexts.{IsOnTheWay, CountsOn}
use Rattle.game_outside.proofs.line_text.LineText.next_line.Given as goal

abbrev pub invariant-loop-self : goal.invariant-loop-self
invariant-loop-self g l = record {
  on_the_way : IsOnTheWay l.fn.self l.self (g.H.Shelf.rest l.fn.shelf) (g.H.Shelf.rest l.shelf) l.line.items;
  on : CountsOn l.fn.self l.self (g.H.Shelf.taken l.shelf);
  going : (l.fn.self.ended ≡ false) × (l.self.ended ≡ false);
  kept : KeepsShelf (g.H.Shelf.held l.fn.shelf) (g.H.Shelf.held l.shelf) (g.H.Shelf.steady l.fn.shelf)
      (g.H.Shelf.steady l.shelf) (g.H.Shelf.faults l.fn.shelf) (g.H.Shelf.faults l.shelf);
  quiet : g.H.Shelf.steady l.fn.shelf ≡ true → g.H.Shelf.faults l.shelf ≡ g.H.Shelf.faults l.fn.shelf;
}

abbrev pub decreases-loop-self : goal.decreases-loop-self
decreases-loop-self g l = l.self.limit + 1 - l.self.taken
