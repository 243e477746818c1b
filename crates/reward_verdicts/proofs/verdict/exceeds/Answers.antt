use Rattle.reward_verdicts.proofs.Tests.{exceeds-by}
use Rattle.reward_verdicts.proofs.verdict.exceeds.Goals as goal

pub returns-in-Some : goal.returns-in-Some
returns-in-Some c =
    exceeds-by c.args.threshold.now c.args.places c.num.result c.den.result c.units_below.result c.in-Some.units
    c.args.value c.in-Some.is c.requires.value c.num.ensures.value c.den.ensures.value
    c.den.ensures.positive c.units_below.ensures
