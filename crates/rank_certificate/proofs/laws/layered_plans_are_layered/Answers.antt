use Rattle.rank_certificate.proofs.Layered.{plan-layered}
use Rattle.rank_certificate.proofs.laws.layered_plans_are_layered.Goals as goal

pub returns : goal.returns
returns c = plan-layered c.args.question.now c.args.values.now c.args.choices.now c.args.ranks.now
    c.requires c.invariant.ensures
