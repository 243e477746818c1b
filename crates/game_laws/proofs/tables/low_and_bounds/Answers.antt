use Rattle.std.specs.Prelude.{slice_index}
use Rattle.game_laws.proofs.Truth.{IsLow-reaches, IsLow-exceeds}
use Rattle.game_laws.proofs.tables.low_and_bounds.Goals as goal

pub returns : goal.returns
returns c = record {
  reached = λ a b s inside bound.
      IsLow-reaches c.args.question.now (slice_index c.args.table.now) a b s c.requires inside bound;
  exceeded = λ a b s inside bound.
      IsLow-exceeds c.args.question.now
      (slice_index c.args.table.now) a b s c.invariant.ensures c.requires inside bound;
}
