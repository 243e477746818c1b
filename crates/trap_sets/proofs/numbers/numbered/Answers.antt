use Rattle.trap_sets.proofs.Trapping.{AreTraps-numbers}
use Rattle.trap_sets.proofs.numbers.numbered.Goals as goal

pub returns : goal.returns
returns c = AreTraps-numbers c.args.mdp.now.question.now c.args.mdp.now.replies.now c.args.part.now
    c.in_ok-sets.sets.of.items c.in_ok-sets.sets.count c.args.mdp.now.posed c.requires c.in_ok-sets.ensures.numbers
    c.in_ok-sets.ensures.count
