use Rattle.std.specs.Prelude.{slice_index}
use Rattle.game_laws.proofs.Truth.{IsHigh-not-exceeds, IsHigh-not-reaches}
use Rattle.game_laws.proofs.tables.high_and_bounds.Goals as goal

pub returns : goal.returns
returns c = record {
  not_exceeded = λ a b s inside bound.
      IsHigh-not-exceeds c.args.question.now (slice_index c.args.table.now) a b s c.requires inside bound;
  not_reached = λ a b s inside bound. IsHigh-not-reaches c.args.question.now
      (slice_index c.args.table.now) a b s c.invariant.ensures c.requires inside bound;
}
