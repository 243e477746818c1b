-- These definitions say what a choice gives over a table of units, and what the step of a state is over values that may
-- rise while they are read.
use Rattle.std.specs.Prelude.{◌≡◌, ℕ, ◌<◌, ◌≤◌, false, length}
use Rattle.game_model.specs.declared.game.Side.TheVariants.{Max, Min}
use Rattle.game_model.specs.Game.{choices_of, choice_of}
use Rattle.game_model.specs.Query.{Query, is_goal, is_dead, side_at}
use Rattle.game_model.specs.Limits.{unit}
use Rattle.game_model.specs.Rounded.{down_value, down_step}

-- The state is neither goal nor dead.
abbrev pub IsFree : Query → ℕ → Type 0
IsFree q s = (is_goal q s ≡ false) × (is_dead q s ≡ false)

-- The choice gives at least the value over a table. At a state of the minimiser it is 0, and every choice gives at
-- least the value.
pub record IsGivenBy (q : Query) (table : ℕ → ℕ) (s value choice : ℕ) : Type 0 where
  pub greatest : side_at q s ≡ Max → (choice < length (choices_of q.game s))
      × (value ≤ down_value table (choice_of q.game s choice))
  pub least : side_at q s ≡ Min → (choice ≡ 0) × ((c : ℕ) → c < length (choices_of q.game s)
      → value ≤ down_value table (choice_of q.game s c))

-- The value is at least the floor, and at least the step over what was seen before. If it is above the floor, the
-- choice gives it over what was seen after. Each earlier choice gave less over what was seen before. At the floor the
-- choice is 0.
pub record IsStepAbove (q : Query) (old new : ℕ → ℕ) (s floor value choice : ℕ) : Type 0 where
  pub units : value ≤ unit
  pub floored : floor ≤ value
  pub none : value ≡ floor → choice ≡ 0
  pub low : down_step q old s ≤ value
  pub given : floor < value → IsGivenBy q new s value choice
  pub inside : choice < length (choices_of q.game s)
  pub first : (c : ℕ) → c < choice → down_value old (choice_of q.game s c) < value
  pub least : side_at q s ≡ Min → choice ≡ 0
