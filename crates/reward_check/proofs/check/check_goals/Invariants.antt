use Rattle.std.proofs.Common.{◌≡◌, ℕ, ◌<◌, true}
use Rattle.game_model.specs.Query.{is_goal}
use Rattle.reward_check.specs.Certificates.{said}
use Rattle.reward_check.specs.Parts.{HasZeros}
use Rattle.reward_check.proofs.check.check_goals.Given as goal

abbrev pub invariant-loop-state : goal.invariant-loop-state
invariant-loop-state l =
    (s : ℕ) → s < l.state → is_goal l.tables.question.now s ≡ true → HasZeros (said l.tables) s
