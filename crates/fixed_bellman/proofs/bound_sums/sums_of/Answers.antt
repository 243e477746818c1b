use Rattle.std.proofs.Common.{◌<◌, length, arith}
use Rattle.game_model.specs.Game.{IsDistribution, choice_among}
use Rattle.fixed_bellman.proofs.Edges.{are-total, all-to}
use Rattle.fixed_bellman.proofs.BoundSums.{AreSums-of-edges}
use Rattle.fixed_bellman.proofs.bound_sums.sums_of.Goals as goal

pub narrow_sums-lower-requires-clause-inside : goal.narrow_sums-lower-requires-clause-inside
narrow_sums-lower-requires-clause-inside c =
    all-to (c.invariant.ensures.distributions c.args.choice c.requires.choice) c.successors-successors.ensures
    c.narrow_weights-weights.ensures
    (λ t. t < length c.args.table.now) c.requires.inside

pub narrow_sums-lower-requires-clause-narrow : goal.narrow_sums-lower-requires-clause-narrow
narrow_sums-lower-requires-clause-narrow c =
    let fine : IsDistribution (choice_among c.args.row.now c.args.choice) =
    c.invariant.ensures.distributions c.args.choice c.requires.choice in
    omega (
      arith,
      c.requires.total,
      c.if-total-le-MOST_NARROW.true,
      are-total fine c.successors-successors.ensures c.narrow_weights-weights.ensures,
    )

pub middle_sums-requires-clause-inside : goal.middle_sums-requires-clause-inside
middle_sums-requires-clause-inside c =
    all-to (c.invariant.ensures.distributions c.args.choice c.requires.choice) c.successors-successors.ensures
    c.narrow_weights-weights.ensures
    (λ t. t < length c.args.table.now) c.requires.inside

pub middle_sums-requires-clause-small : goal.middle_sums-requires-clause-small
middle_sums-requires-clause-small c =
    let fine : IsDistribution (choice_among c.args.row.now c.args.choice) =
    c.invariant.ensures.distributions c.args.choice c.requires.choice in
    omega (
      arith,
      c.requires.total,
      fine.small,
      are-total fine c.successors-successors.ensures c.narrow_weights-weights.ensures,
    )

pub returns-then-total-le-MOST_NARROW : goal.returns-then-total-le-MOST_NARROW
returns-then-total-le-MOST_NARROW c =
    rw (c.from.ensures, c.from-then-total-le-MOST_NARROW.ensures)
    (AreSums-of-edges
    (c.invariant.ensures.distributions c.args.choice c.requires.choice) c.successors-successors.ensures
    c.narrow_weights-weights.ensures c.narrow_sums-lower.ensures)

pub returns : goal.returns
returns c =
    AreSums-of-edges (c.invariant.ensures.distributions c.args.choice c.requires.choice) c.successors-successors.ensures
    c.narrow_weights-weights.ensures c.middle_sums.ensures
