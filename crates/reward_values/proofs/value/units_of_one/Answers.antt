use Rattle.std.proofs.Common.{arith}
use Rattle.std.proofs.Math.Nat.{one-le-pow}
use Rattle.reward_values.proofs.Digits.{power-small}
use Rattle.reward_values.proofs.value.units_of_one.Goals as goal

pub returns-clause-some : goal.returns-clause-some
returns-clause-some c = omega (arith, c.pow.ensures, one-le-pow c.args.places 10 (omega arith))

pub returns-clause-small : goal.returns-clause-small
returns-clause-small c = omega (arith, c.pow.ensures, power-small c.args.places c.requires)
