use Rattle.std.proofs.Common.{arith}
use Rattle.fixed_bellman.proofs.BoundSums.{listed-sums-more, listed-sums-narrow, AreSums-all}
use Rattle.fixed_bellman.proofs.bound_sums.narrow_sums.Goals as goal

pub overflow_mul-lower : goal.overflow_mul-lower
overflow_mul-lower c =
    let most = listed-sums-narrow c.args.successors.now c.args.weights.now c.args.table.now c.loop-place.place
    c.loop-place.lower c.loop-place.upper c.requires.many c.requires.inside c.requires.units c.loop-place-test.true
    c.loop-place.invariant c.requires.narrow in
    omega (arith, most.0)

pub overflow_add-lower : goal.overflow_add-lower
overflow_add-lower c =
    let most = listed-sums-narrow c.args.successors.now c.args.weights.now c.args.table.now c.loop-place.place
    c.loop-place.lower c.loop-place.upper c.requires.many c.requires.inside c.requires.units c.loop-place-test.true
    c.loop-place.invariant c.requires.narrow in
    omega (arith, most.0)

pub overflow_mul-upper : goal.overflow_mul-upper
overflow_mul-upper c =
    let most = listed-sums-narrow c.args.successors.now c.args.weights.now c.args.table.now c.loop-place.place
    c.loop-place.lower c.loop-place.upper c.requires.many c.requires.inside c.requires.units c.loop-place-test.true
    c.loop-place.invariant c.requires.narrow in
    omega (arith, most.1)

pub overflow_add-upper : goal.overflow_add-upper
overflow_add-upper c =
    let most = listed-sums-narrow c.args.successors.now c.args.weights.now c.args.table.now c.loop-place.place
    c.loop-place.lower c.loop-place.upper c.requires.many c.requires.inside c.requires.units c.loop-place-test.true
    c.loop-place.invariant c.requires.narrow in
    omega (arith, most.1)

pub loop-place-preserved : goal.loop-place-preserved
loop-place-preserved c =
    listed-sums-more c.args.successors.now c.args.weights.now c.args.table.now c.loop-place.place
    c.loop-place.lower c.loop-place.upper c.requires.many c.requires.inside c.requires.units c.loop-place-test.true
    c.loop-place.invariant

pub returns : goal.returns
returns c = AreSums-all c.args.successors.now c.args.weights.now c.args.table.now c.loop-place.place c.loop-place.lower
    c.loop-place.upper c.requires.many c.loop-place-test.false c.loop-place.invariant
