-- These are the definitions for what the guesses of one excess are made from.
use Rattle.std.specs.Prelude.{ℕ, List, slice_index}
use Rattle.game_model.specs.Game.{Distribution, choices_of, choice_of}
use Rattle.game_model.specs.Query.{side_at}
use Rattle.game_model.specs.Values.{optimum}
use Rattle.game_model.specs.Rounded.{down_value, down_step}
use Rattle.game_model.specs.Tables.{IsTable}
use Rattle.fixed_bellman.specs.Sums.{IsSumBetween}
use Rattle.lower_guess.specs.LowerGuess.{first_raised, raised_table, IsRefused, AreRefused, IsFirstAt}
use Rattle.lower_guess.specs.declared.guesses.Guesses.{Guesses}

-- This is the entry of a state before any step down.
abbrev pub first_entry_of : Guesses → ℕ → ℕ
first_entry_of g s = first_raised g.question.now g.zero.now (slice_index g.base.now) g.excess s

-- This is the entry of a state after this many steps down.
abbrev pub entry_of : Guesses → ℕ → ℕ → ℕ
entry_of g steps s = raised_table g.question.now g.zero.now (slice_index g.base.now) g.excess steps s

-- This is the down step of that table at the state.
abbrev pub step_of : Guesses → ℕ → ℕ → ℕ
step_of g steps s = down_step g.question.now (entry_of g steps) s

-- A state has this choice.
abbrev pub choice_at : Guesses → ℕ → ℕ → Distribution
choice_at g s c = choice_of g.question.now.game s c

-- This is the down value of the best choice of a state over the entries.
abbrev pub best_of : Guesses → ℕ → ℕ → ℕ
best_of g steps s =
    optimum (side_at g.question.now s) (down_value (entry_of g steps)) (choices_of g.question.now.game s)

-- The number is the sum of weight times entry over the edges of a choice.
abbrev pub IsSumOf : Guesses → ℕ → Distribution → ℕ → Type 0
IsSumOf g steps choice sum = IsSumBetween choice.edges (entry_of g steps) (entry_of g steps) sum

-- The list is the table after this many steps down.
abbrev pub IsTableOf : Guesses → ℕ → List ℕ → Type 0
IsTableOf g steps table = IsTable g.question.now (entry_of g steps) table

-- No choices and ranks prove the table after this many steps down.
abbrev pub IsRefusedOf : Guesses → ℕ → Type 0
IsRefusedOf g steps = IsRefused g.question.now (entry_of g steps)

-- No table of the excess can be ranked.
abbrev pub AreRefusedOf : Guesses → Type 0
AreRefusedOf g = AreRefused g.question.now g.zero.now (slice_index g.base.now) g.excess

-- This is the first of the tables that can be ranked.
abbrev pub IsFirstOf : Guesses → List ℕ → Type 0
IsFirstOf g table = IsFirstAt g.question.now g.zero.now (slice_index g.base.now) g.excess table
