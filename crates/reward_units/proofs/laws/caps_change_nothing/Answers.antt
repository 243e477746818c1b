use Rattle.reward_units.proofs.Capped.{accepted-uncapped}
use Rattle.reward_units.proofs.laws.caps_change_nothing.Goals as goal

pub returns : goal.returns
returns c = accepted-uncapped
