use Rattle.std.proofs.Common.{◌≡◌, ℕ, ◌<◌, false}
use Rattle.std.specs.Prelude.{slice_index_or}
use Rattle.game_model.specs.declared.game.Side.TheVariants.{Max}
use Rattle.game_model.specs.Query.{side_at}
use Rattle.away_ranks.specs.inside.Left.{AreKept, IsUnserved}
use Rattle.away_ranks.proofs.left.choose.Given as goal

abbrev pub invariant-loop-state : goal.invariant-loop-state
invariant-loop-state l = record {
  kept : AreKept l.excluded.gone.now l.fn.choices l.choices;
  chosen : (s : ℕ) → s < l.state → side_at l.question s ≡ Max → slice_index_or l.left s false ≡ false
      → slice_index_or l.excluded.gone.now s false ≡ false
      → IsUnserved l.question l.excluded.gone.now l.left l.choices s;
}
