use Rattle.fractions.proofs.Euclid.{gcd-is}
use Rattle.fractions.proofs.laws.greatest_common_divisors.Goals as goal

pub returns : goal.returns
returns c = gcd-is
