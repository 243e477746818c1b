use Rattle.fractions.proofs.Euclid.{lcm-left, lcm-right, lcm-least}
use Rattle.fractions.proofs.laws.least_common_multiples.Goals as goal

pub returns-clause-multiple : goal.returns-clause-multiple
returns-clause-multiple c = λ a b h. (lcm-left a b h, lcm-right a b)

pub returns-clause-least : goal.returns-clause-least
returns-clause-least c = lcm-least
