use Rattle.std.proofs.Common.{◌*◌, arith}
use Rattle.reward_units.proofs.laws.expected_scales.Goals as goal

pub returns : goal.returns
returns c = λ q rewards a faces k s greatest least. omega (
  arith,
  c.expected_grows.ensures q rewards (λ t d. a * rewards t d) a 1 faces k s greatest least (λ t d. omega arith),
  c.expected_grows.ensures q (λ t d. a * rewards t d) rewards 1 a faces k s greatest least (λ t d. omega arith),
)
