use Rattle.step_core.proofs.Kept.{after-keeps}
use Rattle.step_core.proofs.laws.lawful_events_keep_the_invariant.Goals as goal

pub returns : goal.returns
returns c = after-keeps
