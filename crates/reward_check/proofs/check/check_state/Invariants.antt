use Rattle.std.proofs.Common.{ℕ, ◌<◌}
use Rattle.reward_check.specs.Certificates.{said}
use Rattle.reward_check.specs.Parts.{IsTaken, IsRight}
use Rattle.reward_check.proofs.check.check_state.Given as goal

abbrev pub invariant-loop-choice : goal.invariant-loop-choice
invariant-loop-choice l = (k : ℕ) → k < l.choice → IsTaken l.part (said l.tables) l.state k
    → IsRight l.part (said l.tables) l.state k
