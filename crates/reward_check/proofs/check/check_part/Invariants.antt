use Rattle.std.proofs.Common.{ℕ, ◌<◌}
use Rattle.reward_check.specs.Certificates.{said}
use Rattle.reward_check.specs.Parts.{IsPassedAt}
use Rattle.reward_check.proofs.check.check_part.Given as goal

abbrev pub invariant-loop-state : goal.invariant-loop-state
invariant-loop-state l = (s : ℕ) → s < l.state → IsPassedAt l.part (said l.tables) s
