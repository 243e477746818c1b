-- This module defines the bounds that candidates give when the almost-sure states and the states of value 0 are known.
use Rattle.std.specs.Prelude.{ℕ, ◌-◌, ◌⊎◌, ◌==◌, Bool, false, List, [], length, slice_index, slice_index_or, min, max}
use Rattle.std.specs.Prelude.{if◌then◌else◌}
use Rattle.game_model.specs.Query.{Query, states}
use Rattle.game_model.specs.Limits.{unit}
use Rattle.game_model.specs.Tables.{IsTable}
use Rattle.game_model.specs.Rounded.{IsInductive}
use Rattle.game_model.specs.Dual.{IsZeroSet}
use Rattle.rank_certificate.specs.Carrying.{CanBeRanked}
use Rattle.almost_sure.specs.Values.{AreAlmostSure}

-- The entry is the unit at marked states, and 0 elsewhere.
abbrev pub sure_value : List Bool → ℕ → ℕ
sure_value sure s = if slice_index_or sure s false then unit else 0

-- The lower bound is the unit at almost-sure states and 0 in the zero set. Elsewhere it is the candidate, but less than
-- the unit, and 0 if the candidate has no entry.
abbrev pub lower_bound : List Bool → List Bool → List ℕ → ℕ → ℕ
lower_bound sure zero candidate s = if slice_index_or sure s false then unit else
    (if slice_index_or zero s false then 0 else min (slice_index candidate s) (unit - 1))

-- The upper bound is 0 in the zero set and the unit at almost-sure states. Elsewhere it is the candidate, from 1 to the
-- unit, and the unit if the candidate has no entry.
abbrev pub upper_bound : List Bool → List Bool → List ℕ → ℕ → ℕ
upper_bound sure zero candidate s = if slice_index_or zero s false then 0 else
    (if slice_index_or sure s false then unit else max 1 (min (slice_index_or candidate s unit) unit))

-- A candidate counts as empty if it has another number of entries than this.
abbrev pub counted : ℕ → List ℕ → List ℕ
counted n candidate = if length candidate == n then candidate else []

-- Some table of these entries can be ranked.
abbrev pub HasRankedTable : Query → (ℕ → ℕ) → Type 0
HasRankedTable q entries = (table : List ℕ) × IsTable q entries table × CanBeRanked q table

-- The lower table is that of a candidate if it can be ranked, and else that of an empty candidate: the unit at
-- almost-sure states and 0 elsewhere.
abbrev pub IsLowerOf : Query → List Bool → List Bool → List ℕ → List ℕ → Type 0
IsLowerOf q sure zero candidate lower =
    IsTable q (lower_bound sure zero candidate) lower
    ⊎ (IsTable q (lower_bound sure zero []) lower × ¬ HasRankedTable q (lower_bound sure zero candidate))

-- The upper table is that of a candidate if it is inductive, and else that of an empty candidate: 0 in the zero set and
-- the unit elsewhere.
abbrev pub IsUpperOf : Query → List Bool → List Bool → List ℕ → List ℕ → Type 0
IsUpperOf q sure zero candidate upper =
    IsTable q (upper_bound sure zero candidate) upper
    ⊎ (IsTable q (upper_bound sure zero []) upper × ¬ IsInductive q (upper_bound sure zero candidate))

-- Two candidates give these tables.
pub record AreBoundsOf (q : Query) (below above lower upper : List ℕ) : Type 0 where
  pub sure : List Bool
  pub zero : List Bool
  pub almost_sure : AreAlmostSure q sure
  pub zero_set : IsZeroSet q zero
  pub lower_of : IsLowerOf q sure zero (counted (states q) below) lower
  pub upper_of : IsUpperOf q sure zero (counted (states q) above) upper
