-- A step over a table fills a part for the states in a row from one on.
use Rattle.std.specs.Prelude.{ℕ, ◌+◌, ◌≤◌, Bool, List, length}
use Rattle.game_model.specs.Query.{states}
use Rattle.fixed_bellman.specs.declared.bounds.Bounds.{Bounds}
use Rattle.bounded_rounds.specs.declared.tables.Tables.{Tables}
use Rattle.bounded_rounds.specs.inside.Parts.{IsStepped}

-- Each entry of the part is for one of these states.
abbrev pub IsPartFrom : Tables → ℕ → List Bounds → Type 0
IsPartFrom tables first part = first + length part ≤ states tables.question.now

-- The part has the steps of `count` states.
abbrev pub IsStepOf : Tables → ℕ → ℕ → List Bounds → Bool → Type 0
IsStepOf tables first count part changed = IsStepped tables.question.now tables.table.now first count part changed
