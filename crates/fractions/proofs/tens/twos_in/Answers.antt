use Rattle.fractions.proofs.Factors.{twos_divide, twos_out}
use Rattle.fractions.proofs.tens.twos_in.Goals as goal

pub returns-clause-whole : goal.returns-clause-whole
returns-clause-whole c = twos_divide c.args.number c.requires c.ranges.number.fits

pub returns-clause-out : goal.returns-clause-out
returns-clause-out c = twos_out c.args.number c.requires c.ranges.number.fits
