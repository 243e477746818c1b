use Rattle.reward_units.specs.Exact.{uncapped}
use Rattle.reward_units.proofs.Bounds.{uncapped-exact}
use Rattle.reward_units.proofs.Capped.{accepted-uncapped}
use Rattle.reward_units.proofs.laws.accepted_bounds_are_exact.Goals as goal

pub returns : goal.returns
returns c = λ certificate exact places den whole posed alive many paid rounded values accepted.
    uncapped-exact certificate exact places den whole posed paid
    (c.accepted_rewards_are_sound.ensures (uncapped certificate exact places) posed alive many
    ((accepted-uncapped certificate exact places posed rounded values).0 accepted))
