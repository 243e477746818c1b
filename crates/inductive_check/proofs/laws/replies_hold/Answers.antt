use Rattle.std.specs.Prelude.{slice_index}
use Rattle.inductive_check.proofs.Holding.{HoldsUnder-replies}
use Rattle.inductive_check.proofs.laws.replies_hold.Goals as goal

pub returns : goal.returns
returns c = HoldsUnder-replies c.args.question.now
    (slice_index c.args.upper.now) c.args.replies.now c.invariant.ensures c.requires.inductive c.requires.replies
