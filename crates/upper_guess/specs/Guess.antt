-- An upper table is guessed by excess and then by up steps, and the first table that is accepted is the guess.
use Rattle.std.specs.Prelude.{◌≡◌, ℕ, zero, suc, ◌+◌, ◌-◌, ◌/◌, ◌^◌, ◌<◌, ◌≤◌, Bool, false, List, length}
use Rattle.std.specs.Prelude.{slice_index_or, All, if◌then◌else◌, min}
use Rattle.game_model.specs.Query.{Query, states, is_goal}
use Rattle.game_model.specs.Limits.{unit}
use Rattle.game_model.specs.Tables.{IsTable}
use Rattle.game_model.specs.Rounded.{up_step, IsInductive}

-- The excesses are 0, 1, 2, 4, .., by their places.
abbrev pub excess : ℕ → ℕ
excess place = 2 ^ place / 2

-- This is the place of the last excess, 2^50, which is above the unit.
abbrev pub last_place : ℕ
last_place = 51

-- One excess has at most this many up steps.
abbrev pub most_steps : ℕ
most_steps = 4

-- An entry is 0 on the zero set and the unit on goals. Elsewhere it is the lower entry and the excess, at most the
-- unit.
abbrev pub first_guess : Query → List Bool → (ℕ → ℕ) → ℕ → ℕ → ℕ
first_guess q marks lower e s = if slice_index_or marks s false then 0 else
    (if is_goal q s then unit else min unit (lower s + e))

-- This is the table after this many up steps from the first guess.
unfoldable pub guess_table : Query → List Bool → (ℕ → ℕ) → ℕ → ℕ → ℕ → ℕ
guess_table q marks lower e zero s = first_guess q marks lower e s
guess_table q marks lower e (suc j) s = up_step q (guess_table q marks lower e j) s

-- A table is refused if some state's up value is above its entry.
abbrev pub IsRefused : Query → (ℕ → ℕ) → Type 0
IsRefused q table = (s : ℕ) × (s < states q) × (table s < up_step q table s)

-- Each table of one excess is refused.
abbrev pub AreRefused : Query → List Bool → (ℕ → ℕ) → ℕ → Type 0
AreRefused q marks lower e = (j : ℕ) → j ≤ most_steps → IsRefused q (guess_table q marks lower e j)

-- The state rises from one table to the next, and no state rises more.
pub record RisesMost (q : Query) (table next : ℕ → ℕ) (s : ℕ) : Type 0 where
  pub inside : s < states q
  pub rises : table s < next s
  pub most : (t : ℕ) → t < states q → next t - table t ≤ next s - table s

-- There is a state for each number of up steps.
pub record AreWitnesses (q : Query) (witnesses : List ℕ) : Type 0 where
  pub many : length witnesses ≡ most_steps + 1
  pub inside : All (λ s. s < states q) witnesses

-- This is the first table of one excess that is accepted.
pub record IsFirstAt (q : Query) (marks : List Bool) (lower : ℕ → ℕ) (e : ℕ) (table : List ℕ) : Type 0 where
  pub steps : ℕ
  pub few : steps ≤ most_steps
  pub entries : IsTable q (guess_table q marks lower e steps) table
  pub accepted : IsInductive q (guess_table q marks lower e steps)
  pub refused : (j : ℕ) → j < steps → IsRefused q (guess_table q marks lower e j)

-- This is the first table that is accepted: each table of an earlier excess is refused.
pub record IsFirstGuess (q : Query) (marks : List Bool) (lower : ℕ → ℕ) (table : List ℕ) : Type 0 where
  pub place : ℕ
  pub listed : place ≤ last_place
  pub here : IsFirstAt q marks lower (excess place) table
  pub earlier : (i : ℕ) → i < place → AreRefused q marks lower (excess i)
