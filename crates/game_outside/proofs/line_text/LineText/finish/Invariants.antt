use Rattle.std.proofs.Common.{◌≡◌, ◌+◌, ◌-◌, ℕ, List, true}
use Rattle.game_outside.specs.Outside.{KeepsShelf}
use Rattle.game_outside.specs.LineTexts.{Takes, CountsOn}
use Rattle.game_outside.proofs.line_text.LineText.finish.Given as goal

abbrev pub invariant-loop : goal.invariant-loop
invariant-loop g l = record {
  so_far : (more : List ℕ) × Takes l.fn.self l.self (g.H.Shelf.rest l.fn.shelf) (g.H.Shelf.rest l.shelf) more;
  on : CountsOn l.fn.self l.self (g.H.Shelf.taken l.shelf);
  ended : l.fn.self.ended ≡ true → (l.self.ended ≡ true) × (l.shelf ≡ l.fn.shelf);
  kept : KeepsShelf (g.H.Shelf.held l.fn.shelf) (g.H.Shelf.held l.shelf) (g.H.Shelf.steady l.fn.shelf)
      (g.H.Shelf.steady l.shelf) (g.H.Shelf.faults l.fn.shelf) (g.H.Shelf.faults l.shelf);
  quiet : g.H.Shelf.steady l.fn.shelf ≡ true → g.H.Shelf.faults l.shelf ≡ g.H.Shelf.faults l.fn.shelf;
}

abbrev pub decreases-loop : goal.decreases-loop
decreases-loop g l = l.self.limit + 1 - l.self.taken
