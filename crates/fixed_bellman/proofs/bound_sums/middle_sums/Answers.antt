use Rattle.fixed_bellman.proofs.BoundSums.{listed-sums-more, AreSums-all}
use Rattle.fixed_bellman.proofs.bound_sums.middle_sums.Goals as goal

pub loop-place-preserved : goal.loop-place-preserved
loop-place-preserved c =
    rw (c.from.ensures, c.from-in-loop-place.ensures, c.from-in-loop-place-2.ensures, c.from-in-loop-place-3.ensures)
    (listed-sums-more c.args.successors.now c.args.weights.now c.args.table.now c.loop-place.place
    c.loop-place.lower c.loop-place.upper c.requires.many c.requires.inside c.requires.units c.loop-place-test.true
    c.loop-place.invariant)

pub returns : goal.returns
returns c = AreSums-all c.args.successors.now c.args.weights.now c.args.table.now c.loop-place.place c.loop-place.lower
    c.loop-place.upper c.requires.many c.loop-place-test.false c.loop-place.invariant
