use Rattle.std.proofs.Common.{◌<◌, length, arith}
use Rattle.game_model.specs.Game.{choice_among}
use Rattle.fixed_bellman.proofs.Sums.{IsSumBetween-more}
use Rattle.fixed_bellman.proofs.sum.wide_sum.Goals as goal

pub loop-place-preserved : goal.loop-place-preserved
loop-place-preserved g c =
    let laws = g.met.V.Values in
    let values = c.args.values.now in
    let seen = g.V.Values.seen values in
    let start = c.args.pass.now in
    let mid = c.loop-place.pass in
    let new = c.value.new.pass in
    let w = c.value.ensures in
    let h = c.loop-place.invariant in
    let edges = (choice_among c.args.row.now c.args.choice).edges in
    let inside : c.loop-place.place < length edges =
    omega (arith, c.edge_count-place-end.ensures, c.loop-place-test.true) in record {
      onward = laws.further values start mid new h.onward w.onward;
      sum = rw c.from.ensures (IsSumBetween-more edges c.loop-place.place c.loop-place.sum c.value.result
          c.edge-edge.result inside c.edge-edge.ensures (seen start) (seen mid) (seen new) h.sum
          (laws.rises values start mid h.onward) w.low (laws.rises values mid new w.onward) w.high w.units);
    }
