use Rattle.reward_text.proofs.Certificates.{answered_in_range}
use Rattle.reward_text.proofs.read.read_reward_plan.Goals as goal

pub returns-clause-in_range : goal.returns-clause-in_range
returns-clause-in_range c =
    answered_in_range c.read_states.result c.args.bytes.now c.args.states
    (rw c.in_ok-places.ensures.said c.read_states.ensures.said)
