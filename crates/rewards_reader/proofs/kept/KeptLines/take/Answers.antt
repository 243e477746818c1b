use Rattle.std.proofs.Common.{[], ◌∷◌, sym, arith}
use Rattle.std.proofs.Common.{length-append}
use Rattle.text_lines.specs.Text.{fields_of}
use Rattle.rewards_reader.proofs.Places.{AreEntries-more, next-free}
use Rattle.rewards_reader.proofs.kept.KeptLines.take.Goals as goal

pub returns-in-Ok-clause-ok : goal.returns-in-Ok-clause-ok
returns-in-Ok-clause-ok c =
    let old = c.args.self.now in
    let new = c.put.new.self in
    let line = c.in-Ok.next in
    record {
      game = c.put.ensures.game;
      stated = c.put.ensures.stated;
      next = λ before kept. record {
        next = line;
        said = sym (c.in-Ok.ensures.said before kept);
        kept = record {
          count = omega (arith, length-append before (line ∷ []), kept.count, c.put.ensures.count);
          entries = rw c.put.ensures.game (AreEntries-more old.game.now before line old.entries.items new.entries.items
              old.many c.in-Ok.ensures.inside
              (next-free old.game.now old.stated before (fields_of c.args.line.now) line
              (sym (c.in-Ok.ensures.said before kept)))
              c.put.ensures.entries kept.entries);
        };
      };
    }
