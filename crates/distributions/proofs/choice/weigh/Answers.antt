use Rattle.distributions.proofs.Multiples.{part_small}
use Rattle.distributions.proofs.choice.weigh.Goals as goal

pub edge_of-requires-clause-divided : goal.edge_of-requires-clause-divided
edge_of-requires-clause-divided c = part_small c.args.parts.now c.loop-part.part-index c.args.common c.part-item.result
    c.loop-part-test.true c.part-item.is c.requires.divided
