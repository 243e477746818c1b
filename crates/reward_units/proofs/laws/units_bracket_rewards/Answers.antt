use Rattle.reward_units.proofs.RoundedUnits.{below-times, above-times}
use Rattle.reward_units.proofs.Near.{below-le-above, above-le-next, below-above}
use Rattle.reward_units.proofs.laws.units_bracket_rewards.Goals as goal

pub returns : goal.returns
returns c = record {
  below = below-times;
  above = above-times;
  order = below-le-above;
  near = above-le-next;
  equal = below-above;
}
