use Rattle.distributions.proofs.Chosen.{DenotesChoice-permutation}
use Rattle.distributions.proofs.laws.order_of_parts.Goals as goal

pub returns : goal.returns
returns c = DenotesChoice-permutation
