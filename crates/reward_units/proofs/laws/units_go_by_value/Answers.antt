use Rattle.reward_units.proofs.Near.{below-value, above-value}
use Rattle.reward_units.proofs.laws.units_go_by_value.Goals as goal

pub returns : goal.returns
returns c = record { below = below-value; above = above-value }
