use Rattle.std.proofs.Common.{arith}
use Rattle.game_model.specs.Game.{IsDistribution, choice_among}
use Rattle.fixed_bellman.proofs.Edges.{are-total, all-to, sum-of-edges}
use Rattle.fixed_bellman.proofs.sum.sum_of.Goals as goal

pub narrow_sum-requires-clause-fits : goal.narrow_sum-requires-clause-fits
narrow_sum-requires-clause-fits g c =
    all-to (c.invariant.ensures.distributions c.args.choice c.requires.choice) c.successors-successors.ensures
    c.narrow_weights-weights.ensures
    (g.V.Values.fits c.args.values.now c.args.pass.now) c.requires.fits

pub narrow_sum-requires-clause-narrow : goal.narrow_sum-requires-clause-narrow
narrow_sum-requires-clause-narrow g c =
    let fine : IsDistribution (choice_among c.args.row.now c.args.choice) =
    c.invariant.ensures.distributions c.args.choice c.requires.choice in
    omega (
      arith,
      c.requires.total,
      c.if-total-le-MOST_NARROW.true,
      are-total fine c.successors-successors.ensures c.narrow_weights-weights.ensures,
    )

pub middle_sum-requires-clause-fits : goal.middle_sum-requires-clause-fits
middle_sum-requires-clause-fits g c =
    all-to (c.invariant.ensures.distributions c.args.choice c.requires.choice) c.successors-successors.ensures
    c.narrow_weights-weights.ensures
    (g.V.Values.fits c.args.values.now c.args.pass.now) c.requires.fits

pub middle_sum-requires-clause-small : goal.middle_sum-requires-clause-small
middle_sum-requires-clause-small g c =
    let fine : IsDistribution (choice_among c.args.row.now c.args.choice) =
    c.invariant.ensures.distributions c.args.choice c.requires.choice in
    omega (
      arith,
      c.requires.total,
      fine.small,
      are-total fine c.successors-successors.ensures c.narrow_weights-weights.ensures,
    )

pub returns-then-total-le-MOST_NARROW-clause-sum : goal.returns-then-total-le-MOST_NARROW-clause-sum
returns-then-total-le-MOST_NARROW-clause-sum g c =
    rw c.from.ensures
    (sum-of-edges (c.invariant.ensures.distributions c.args.choice c.requires.choice) c.successors-successors.ensures
    c.narrow_weights-weights.ensures c.narrow_sum.ensures.sum)

pub returns-clause-sum : goal.returns-clause-sum
returns-clause-sum g c =
    sum-of-edges (c.invariant.ensures.distributions c.args.choice c.requires.choice) c.successors-successors.ensures
    c.narrow_weights-weights.ensures c.middle_sum.ensures.sum
