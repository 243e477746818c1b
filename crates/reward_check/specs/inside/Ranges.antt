-- The choices that may be taken are a range.
use Rattle.std.specs.Prelude.{ℕ, ◌<◌, ◌≤◌, ◌↔◌, length}
use Rattle.game_model.specs.Game.{choices_of}
use Rattle.reward_check.specs.declared.parts.Part.{Part}
use Rattle.reward_check.specs.declared.range.ChoiceRange.{ChoiceRange}
use Rattle.reward_check.specs.Certificates.{Certificate}
use Rattle.reward_check.specs.Parts.{HasPlan, IsTaken}

-- The planner has a choice in range if it is to move, and the range has exactly the choices that may be taken.
pub record IsRangeOf (part : Part) (c : Certificate) (s : ℕ) (range : ChoiceRange) : Type 0 where
  pub planned : HasPlan part c s
  pub inside : range.to ≤ length (choices_of c.question.game s)
  pub exact : (k : ℕ) → IsTaken part c s k ↔ ((range.from ≤ k) × (k < range.to))
