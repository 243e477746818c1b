use Rattle.std.proofs.Common.{arith}
use Rattle.reward_units.proofs.Places.{too-many-above}
use Rattle.reward_units.proofs.units.units_above.Goals as goal

pub returns-then-num-den : goal.returns-then-num-den
returns-then-num-den c =
    too-many-above c.args.num c.args.den c.args.places c.requires.divided (omega (arith, c.from.ensures))
