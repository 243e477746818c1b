use Rattle.expected_rewards.proofs.Order.{ordered, bounded-finite}
use Rattle.expected_rewards.proofs.laws.bounds.bounds_are_in_order.Goals as goal

pub returns-clause-finite : goal.returns-clause-finite
returns-clause-finite c = bounded-finite

pub returns-clause-order : goal.returns-clause-order
returns-clause-order c = λ q low high finite bounded choices replies lower upper posed each bounds.
    ordered q low high finite bounded choices replies lower upper posed bounds each
