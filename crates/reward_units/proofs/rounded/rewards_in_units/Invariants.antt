use Rattle.reward_units.specs.Rounded.{exact_in, paid_units}
use Rattle.reward_units.specs.inside.Listed.{ArePaidBefore}
use Rattle.reward_units.proofs.rounded.rewards_in_units.Given as goal

abbrev pub invariant-loop-state : goal.invariant-loop-state
invariant-loop-state l =
    ArePaidBefore l.game (paid_units l.rounding (exact_in l.game l.rewards) l.places) l.state 0 l.list.items
