use Rattle.solved_plans.proofs.Bounds.{no-entry-inductive}
use Rattle.solved_plans.proofs.laws.bounds_of_no_entry_are_inductive.Goals as goal

pub returns : goal.returns
returns c = no-entry-inductive c.args.question.now c.args.sure.now c.args.zero.now c.requires.zero c.args.values.now
    c.invariant.ensures c.requires.table
