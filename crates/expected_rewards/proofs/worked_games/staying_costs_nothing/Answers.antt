use Rattle.std.specs.Prelude.{[]}
use Rattle.strategies.proofs.Lingering.{never}
use Rattle.expected_rewards.proofs.Waiting.{stayed}
use Rattle.expected_rewards.proofs.worked_games.staying_costs_nothing.Goals as goal

pub returns-clause-paid : goal.returns-clause-paid
returns-clause-paid c = stayed

pub returns-clause-reached : goal.returns-clause-reached
returns-clause-reached c = λ k. never k []
