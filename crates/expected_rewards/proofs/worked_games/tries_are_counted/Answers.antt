use Rattle.expected_rewards.proofs.Waiting.{tried}
use Rattle.expected_rewards.proofs.worked_games.tries_are_counted.Goals as goal

pub returns-clause-paid : goal.returns-clause-paid
returns-clause-paid c = tried
