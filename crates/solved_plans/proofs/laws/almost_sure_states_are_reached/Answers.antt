use Rattle.solved_plans.proofs.Bounds.{no-entry-ranked}
use Rattle.solved_plans.proofs.laws.almost_sure_states_are_reached.Goals as goal

pub returns : goal.returns
returns c = no-entry-ranked c.args.question.now c.args.sure.now c.args.zero.now c.args.values.now c.invariant.ensures
    c.requires.sure c.requires.table
