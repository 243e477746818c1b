use Rattle.std.proofs.Common.{arith}
use Rattle.reward_units.proofs.Places.{too-many-below}
use Rattle.reward_units.proofs.units.units_below.Goals as goal

pub returns-then-num-den : goal.returns-then-num-den
returns-then-num-den c =
    too-many-below c.args.num c.args.den c.args.places c.requires.divided (omega (arith, c.from.ensures))
