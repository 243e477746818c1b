-- These definitions are about the action of the choice under way, when transitions come in the order of their choices.
use Rattle.std.specs.Prelude.{◌≡◌, ◌<◌, ℕ, List, [], ◌∷◌, ◌++◌, length, Some, Bool}
use Rattle.tra_reader.specs.inside.GrowingGames.{Growing, place_under_way}
use Rattle.transition_lines.specs.Lines.{Row}
use Rattle.transition_lines.specs.Answers.{row_place, action_at, clashes_at}

-- If a choice is under way, this is the action of its first row.
abbrev pub IsActionUnderWay : Growing → List ℕ → List Row → Type 0
IsActionUnderWay game action rows = 0 < length game.parts → action_at rows (place_under_way game) ≡ Some action

-- The answer says whether the row clashes with those before it, and this is the first action of its choice.
pub record ComparesAction (action : List ℕ) (rows : List Row) (row : Row) (clash : Bool) : Type 0 where
  pub is : clash ≡ clashes_at rows row
  pub first : action_at (rows ++ row ∷ []) (row_place row) ≡ Some action
