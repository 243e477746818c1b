-- One more value is in range; the greatest change is 0 at first, and only a greater one takes its place.
use Rattle.std.proofs.Common.{rules, arith, sym, subst, ◌≡◌, ◌+◌, ◌<◌, ◌≤◌, length}
use Rattle.std.proofs.lemmas.Float.{T_from_true}
use Rattle.std.specs.Float.{Float, ◌≤ᶠ◌, float_zero}
use Rattle.float_games.proofs.Changes.{above_zero, in_units_more}
use Rattle.float_games.proofs.game.FloatGame.sweep.Goals as goal
use Rattle.float_games.proofs.game.FloatGame.sweep.Goals.{then-by-change, else-by-change}

pub loop-node-preserved : goal.loop-node-preserved
loop-node-preserved c =
    let P : Float → Type 0 = λ x. float_zero ≤ᶠ x in
    let inside : c.loop-node.node < length c.loop-node.values = omega arith in
    let few : c.if-gained-gain.exchanged ≤ c.loop-node.node + 1 = search rules in
    let kept : c.if-gained-gain.exchanged ≡ 0 → c.if-gained-gain.policy ≡ c.args.policy.now = search rules in
    let low : float_zero ≤ᶠ c.if-by-change.change = elim c.if-by-change.branch [
      | then-by-change w ↦ subst P (sym w.change-is)
          (above_zero c.loop-node.change c.abs-by.result c.loop-node.invariant.3 (T_from_true _ w.if-by-change.true))
      | else-by-change w ↦ subst P (sym w.change-is) c.loop-node.invariant.3
    ] in (
      in_units_more c.loop-node.values c.loop-node.node c.bounded-value.result c.loop-node.invariant.0 inside
          c.bounded-value.ensures.units,
      few,
      kept,
      low,
    )
