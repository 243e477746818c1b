-- The guesses of a lower table are ordered by excess and then by steps down. The first that can be ranked counts.
use Rattle.std.specs.Prelude.{◌≡◌, ℕ, zero, suc, ◌+◌, ◌<◌, ◌≤◌, ◌⊎◌, Bool, false, List, slice_index, slice_index_or}
use Rattle.std.specs.Prelude.{Option, if◌then◌else◌, min}
use Rattle.game_model.specs.Query.{Query, is_goal}
use Rattle.game_model.specs.Limits.{unit}
use Rattle.game_model.specs.Tables.{IsTable}
use Rattle.game_model.specs.Rounded.{down_step}
use Rattle.rank_certificate.specs.Layers.{AreLayered}
use Rattle.rank_certificate.specs.Carrying.{CanBeRanked, IsLayeredPlan}

-- The excesses 4, 2 and 1 have the places 0, 1 and 2.
abbrev pub excess : ℕ → ℕ
excess zero = 4
excess (suc zero) = 2
excess (suc (suc place)) = 1

-- The last excess has this place.
abbrev pub last_place : ℕ
last_place = 2

-- An excess has at most this many steps down.
abbrev pub most_steps : ℕ
most_steps = 4

-- The value is the unit on goals, 0 on the zero set, and elsewhere the entry and the excess, at most the unit.
abbrev pub first_raised : Query → List Bool → (ℕ → ℕ) → ℕ → ℕ → ℕ
first_raised q marks base e s = if is_goal q s then unit else
    (if slice_index_or marks s false then 0 else min unit (base s + e))

-- The value is the lesser of the table's entry and of its down step.
abbrev pub lesser_step : Query → (ℕ → ℕ) → ℕ → ℕ
lesser_step q table s = min (table s) (down_step q table s)

-- The table is the raised one after this many steps down.
unfoldable pub raised_table : Query → List Bool → (ℕ → ℕ) → ℕ → ℕ → ℕ → ℕ
raised_table q marks base e zero s = first_raised q marks base e s
raised_table q marks base e (suc j) s = lesser_step q (raised_table q marks base e j) s

-- No choices and ranks prove a table of these entries.
abbrev pub IsRefused : Query → (ℕ → ℕ) → Type 0
IsRefused q entries = (table : List ℕ) → IsTable q entries table → ¬ CanBeRanked q table

-- No choices and ranks prove any table of one excess.
abbrev pub AreRefused : Query → List Bool → (ℕ → ℕ) → ℕ → Type 0
AreRefused q marks base e = (j : ℕ) → j ≤ most_steps → IsRefused q (raised_table q marks base e j)

-- This is the first table of one excess that can be ranked.
pub record IsFirstAt (q : Query) (marks : List Bool) (base : ℕ → ℕ) (e : ℕ) (table : List ℕ) : Type 0 where
  pub steps : ℕ
  pub few : steps ≤ most_steps
  pub entries : IsTable q (raised_table q marks base e steps) table
  pub ranked : CanBeRanked q table
  pub refused : (j : ℕ) → j < steps → IsRefused q (raised_table q marks base e j)

-- This is the first table of all that can be ranked: each table of an earlier excess is refused.
pub record IsFirstGuess (q : Query) (marks : List Bool) (base : ℕ → ℕ) (table : List ℕ) : Type 0 where
  pub place : ℕ
  pub listed : place ≤ last_place
  pub here : IsFirstAt q marks base (excess place) table
  pub earlier : (i : ℕ) → i < place → AreRefused q marks base (excess i)

-- The first guess is found, with the plan that proves it.
pub record IsRaised (q : Query) (marks : List Bool) (base : List ℕ) (values : List ℕ) (choices : List (Option ℕ))
    (ranks : List ℕ) : Type 0 where
  pub first : IsFirstGuess q marks (slice_index base) values
  pub plan : IsLayeredPlan q values choices ranks

-- There is no guess: the table is unchanged, with the given choices and the layered ranks for them.
pub record IsUnraised (q : Query) (marks : List Bool) (base : List ℕ) (given : List (Option ℕ)) (values : List ℕ)
    (choices : List (Option ℕ)) (ranks : List ℕ) : Type 0 where
  pub refused : (place : ℕ) → place ≤ last_place → AreRefused q marks (slice_index base) (excess place)
  pub values_are : values ≡ base
  pub choices_are : choices ≡ given
  pub ranks_are : AreLayered q base given ranks

-- The lower guess of a table is raised or unchanged.
abbrev pub IsLowerGuess : Query → List Bool → List ℕ → List (Option ℕ) → List ℕ → List (Option ℕ) → List ℕ → Type 0
IsLowerGuess q marks base given values choices ranks =
    IsRaised q marks base values choices ranks ⊎ IsUnraised q marks base given values choices ranks
