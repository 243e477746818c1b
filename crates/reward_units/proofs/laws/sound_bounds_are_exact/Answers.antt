use Rattle.reward_units.proofs.Bounds.{capped-exact}
use Rattle.reward_units.proofs.laws.sound_bounds_are_exact.Goals as goal

pub returns : goal.returns
returns c = capped-exact
