use Rattle.fixed_bellman.proofs.Sums.{listed-more, listed-all}
use Rattle.fixed_bellman.proofs.sum.middle_sum.Goals as goal

pub loop-place-preserved : goal.loop-place-preserved
loop-place-preserved g c =
    let laws = g.met.V.Values in
    let values = c.args.values.now in
    let seen = g.V.Values.seen values in
    let start = c.args.pass.now in
    let mid = c.loop-place.pass in
    let new = c.value.new.pass in
    let w = c.value.ensures in
    let h = c.loop-place.invariant in record {
      onward = laws.further values start mid new h.onward w.onward;
      sum = rw (c.from.ensures, c.from-in-loop-place.ensures)
          (listed-more c.args.successors.now c.args.weights.now c.requires.many c.loop-place.place c.loop-place.sum
          c.value.result c.loop-place-test.true (seen start) (seen mid) (seen new) h.sum
          (laws.rises values start mid h.onward) w.low (laws.rises values mid new w.onward) w.high w.units);
    }

pub returns-clause-sum : goal.returns-clause-sum
returns-clause-sum g c =
    listed-all c.args.successors.now c.args.weights.now c.requires.many c.loop-place.place c.loop-place.sum
    (g.V.Values.seen c.args.values.now c.args.pass.now) (g.V.Values.seen c.args.values.now c.loop-place.pass)
    c.loop-place-test.false c.loop-place.invariant.sum
