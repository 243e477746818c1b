use Rattle.step_core.specs.Configuration.{opening_configuration}
use Rattle.step_core.proofs.Kept.{opening-keeps, Leads-keeps}
use Rattle.step_core.proofs.laws.all_worlds_meet_the_invariant.Goals as goal

pub returns : goal.returns
returns c = λ q events w h leads. Leads-keeps (opening_configuration q) w events (opening-keeps q h) leads
