use Rattle.distributions.proofs.Chosen.{choice-found, choice-again}
use Rattle.distributions.proofs.laws.said_is_denoted.Goals as goal

pub returns : goal.returns
returns c = λ parts d kept. (choice-found parts d kept, choice-again parts d kept)
