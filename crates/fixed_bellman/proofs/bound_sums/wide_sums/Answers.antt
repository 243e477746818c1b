use Rattle.std.proofs.Common.{arith}
use Rattle.game_model.specs.Game.{choice_among}
use Rattle.fixed_bellman.proofs.BoundSums.{choice-sums-more, choice-sums-fit}
use Rattle.fixed_bellman.proofs.bound_sums.wide_sums.Goals as goal

pub overflow_add-lower : goal.overflow_add-lower
overflow_add-lower c =
    let most = choice-sums-fit (choice_among c.args.row.now c.args.choice) c.args.table.now c.loop-place.place
    c.edge_count-place-end.result c.loop-place.lower c.loop-place.upper c.edge-edge.result
    c.edge_count-place-end.ensures c.loop-place-test.true c.edge-edge.ensures c.requires.inside c.requires.units
    c.loop-place.invariant
    (c.invariant.ensures.distributions c.args.choice c.requires.choice) in
    rw c.from.ensures (omega (arith, most.0))

pub overflow_add-upper : goal.overflow_add-upper
overflow_add-upper c =
    let most = choice-sums-fit (choice_among c.args.row.now c.args.choice) c.args.table.now c.loop-place.place
    c.edge_count-place-end.result c.loop-place.lower c.loop-place.upper c.edge-edge.result
    c.edge_count-place-end.ensures c.loop-place-test.true c.edge-edge.ensures c.requires.inside c.requires.units
    c.loop-place.invariant
    (c.invariant.ensures.distributions c.args.choice c.requires.choice) in
    rw c.from-in-loop-place.ensures (omega (arith, most.1))

pub loop-place-preserved : goal.loop-place-preserved
loop-place-preserved c =
    rw (c.from.ensures, c.from-in-loop-place.ensures)
    (choice-sums-more (choice_among c.args.row.now c.args.choice) c.args.table.now c.loop-place.place
    c.edge_count-place-end.result c.loop-place.lower c.loop-place.upper c.edge-edge.result
    c.edge_count-place-end.ensures c.loop-place-test.true c.edge-edge.ensures c.requires.inside c.requires.units
    c.loop-place.invariant)
