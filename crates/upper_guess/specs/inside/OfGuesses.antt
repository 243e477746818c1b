-- These are the definitions for the guesses of one excess.
use Rattle.std.specs.Prelude.{ℕ, List, Option, Some, None, slice_index}
use Rattle.std.specs.Global.{Vec}
use Rattle.game_model.specs.Game.{Distribution, choices_of, choice_of}
use Rattle.game_model.specs.Query.{side_at}
use Rattle.game_model.specs.Values.{optimum}
use Rattle.game_model.specs.Rounded.{up_value}
use Rattle.fixed_bellman.specs.Sums.{IsSumBetween}
use Rattle.game_model.specs.Tables.{IsTable}
use Rattle.upper_guess.specs.Guess.{first_guess, guess_table, IsRefused, AreRefused, IsFirstAt}
use Rattle.upper_guess.specs.declared.guesses.Guesses.{Guesses}

-- This is the entry of a state before any up step.
abbrev pub first_entry_of : Guesses → ℕ → ℕ
first_entry_of g s = first_guess g.question.now g.zero.now (slice_index g.lower.now) g.excess s

-- This is the entry of a state after `steps` up steps.
abbrev pub entry_of : Guesses → ℕ → ℕ → ℕ
entry_of g steps s = guess_table g.question.now g.zero.now (slice_index g.lower.now) g.excess steps s

-- This is a choice of a state.
abbrev pub choice_at : Guesses → ℕ → ℕ → Distribution
choice_at g s c = choice_of g.question.now.game s c

-- This is the up value of the best choice of a state over the entries.
abbrev pub best_of : Guesses → ℕ → ℕ → ℕ
best_of g steps s = optimum (side_at g.question.now s) (up_value (entry_of g steps)) (choices_of g.question.now.game s)

-- The number is the sum of weight times entry over the edges of a choice.
abbrev pub IsSumOf : Guesses → ℕ → Distribution → ℕ → Type 0
IsSumOf g steps choice sum = IsSumBetween choice.edges (entry_of g steps) (entry_of g steps) sum

-- This is the table after `steps` up steps.
abbrev pub IsTableOf : Guesses → ℕ → List ℕ → Type 0
IsTableOf g steps table = IsTable g.question.now (entry_of g steps) table

-- The table after `steps` up steps is refused.
abbrev pub IsRefusedOf : Guesses → ℕ → Type 0
IsRefusedOf g steps = IsRefused g.question.now (entry_of g steps)

-- Each table of the excess is refused.
abbrev pub AreRefusedOf : Guesses → Type 0
AreRefusedOf g = AreRefused g.question.now g.zero.now (slice_index g.lower.now) g.excess

-- This is the first table of the excess that is accepted.
abbrev pub IsFirstOf : Guesses → List ℕ → Type 0
IsFirstOf g table = IsFirstAt g.question.now g.zero.now (slice_index g.lower.now) g.excess table

-- This is the number of up steps of the table that was made, and 0 if none was made.
abbrev pub steps_of : Option (Vec ℕ × ℕ) → ℕ
steps_of None = 0
steps_of (Some m) = m.1
