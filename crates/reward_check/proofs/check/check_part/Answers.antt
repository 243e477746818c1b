use Rattle.std.proofs.Common.{below_more, refl}
use Rattle.reward_check.specs.Certificates.{said}
use Rattle.reward_check.specs.Parts.{IsPassedAt}
use Rattle.reward_check.proofs.check.check_part.Goals as goal

pub loop-state-preserved : goal.loop-state-preserved
loop-state-preserved c =
    let passed : IsPassedAt c.args.part (said c.args.tables.now) c.loop-state.state = c.in_default.ensures.ok.0 refl in
    below_more _ _ c.loop-state.invariant passed
