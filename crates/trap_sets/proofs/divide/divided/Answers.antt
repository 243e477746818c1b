use Rattle.std.proofs.Common.{subst}
use Rattle.trap_sets.specs.declared.reply_mdp.ReplyMdp.{ReplyMdp}
use Rattle.trap_sets.specs.inside.OfReplyMdp.{KeepsEndsOf}
use Rattle.trap_sets.proofs.divide.divided.Goals as goal

pub returns : goal.returns
returns c = subst (λ (mdp : ReplyMdp). KeepsEndsOf mdp c.in_ok-class.class.items) c.in_ok-internal.ensures.mdp
    c.in_ok-class.ensures
