-- The greatest change is 0 at first, and only a greater one takes its place.
use Rattle.std.proofs.Common.{sym, subst}
use Rattle.std.proofs.lemmas.Float.{T_from_true}
use Rattle.std.specs.Float.{Float, ◌≤ᶠ◌, float_zero}
use Rattle.float_games.proofs.Changes.{above_zero}
use Rattle.float_games.proofs.chain.Chain.pass.Goals as goal
use Rattle.float_games.proofs.chain.Chain.pass.Goals.{then-by-change, else-by-change}

pub loop-node-preserved : goal.loop-node-preserved
loop-node-preserved c =
    let P : Float → Type 0 = λ x. float_zero ≤ᶠ x in
    elim c.if-by-change.branch [
      | then-by-change w ↦ subst P (sym w.change-is)
          (above_zero c.loop-node.change c.abs-by.result c.loop-node.invariant (T_from_true _ w.if-by-change.true))
      | else-by-change w ↦ subst P (sym w.change-is) c.loop-node.invariant
    ]
