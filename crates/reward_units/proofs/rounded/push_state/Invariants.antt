use Rattle.reward_units.specs.Rounded.{exact_in, paid_units}
use Rattle.reward_units.specs.inside.Listed.{ArePaidBefore}
use Rattle.reward_units.proofs.rounded.push_state.Given as goal

abbrev pub invariant-loop-choice : goal.invariant-loop-choice
invariant-loop-choice l =
    ArePaidBefore l.game (paid_units l.rounding (exact_in l.game l.rewards) l.places) l.state l.choice l.list.items
