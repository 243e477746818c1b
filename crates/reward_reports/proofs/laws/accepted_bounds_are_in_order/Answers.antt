use Rattle.expected_rewards.specs.Tables.{is_finite}
use Rattle.reward_check.specs.Certificates.{IsSound}
use Rattle.reward_units.specs.Exact.{uncapped}
use Rattle.reward_reports.proofs.Ordered.{low-high, up-to}
use Rattle.reward_reports.proofs.laws.accepted_bounds_are_in_order.Goals as goal

pub returns : goal.returns
returns g = λ c exact places posed alive many rounded values accepted s inside.
    let all = uncapped c exact places in
    let sound : IsSound (uncapped c exact places) =
    g.accepted_rewards_are_sound.ensures all posed alive many
    ((g.caps_change_nothing.ensures c exact places posed rounded values).0 accepted) in
    up-to (is_finite c.finite s) (is_finite c.bounded s) (c.lower s) (c.upper s)
    (g.bounds_are_in_order.ensures.finite c.question all.low all.high c.finite c.bounded c.choices c.replies c.lower
    c.upper posed sound s inside)
    (g.bounds_are_in_order.ensures.order c.question all.low all.high c.finite c.bounded c.choices c.replies c.lower
    c.upper posed (low-high c exact places) sound s inside)
