-- This module defines the first fault of values, choices and ranks.
use Rattle.std.specs.Prelude.{◌≡◌, ◌≢◌, ℕ, ◌<◌, ◌≤◌, ◌⊎◌, true, List, length, slice_index, slice_index_or, All, Option}
use Rattle.std.specs.Prelude.{Some, None}
use Rattle.game_model.specs.declared.game.Side.{Side}
use Rattle.game_model.specs.declared.game.Side.TheVariants.{Max, Min}
use Rattle.game_model.specs.Game.{Distribution, choices_of, choice_of}
use Rattle.game_model.specs.Query.{Query, states, is_goal, is_dead, side_at}
use Rattle.game_model.specs.Limits.{unit}
use Rattle.game_model.specs.Tables.{IsFirstOver}
use Rattle.game_model.specs.Ranks.{IsRankedChoice}
use Rattle.rank_certificate.specs.declared.check.RankCause.{RankCause}
use Rattle.rank_certificate.specs.declared.check.RankCause.TheVariants.{Value, Choice, Short, NoStep}
use Rattle.rank_certificate.specs.Ranking.{IsEnough, IsShort, LeadsOnward, NeedsRank, HasChoice, IsRankedAt}

-- A goal does not have the unit as its value, or a dead state does not have 0.
abbrev pub IsMisvalued : Query → (ℕ → ℕ) → ℕ → Type 0
IsMisvalued q value s = ((is_goal q s ≡ true) × (value s ≢ unit)) ⊎ ((is_dead q s ≡ true) × (value s ≢ 0))

-- The given choice of the maximiser and every choice of the minimiser have to be ranked.
abbrev pub HasToRank : Side → Option ℕ → ℕ → Type 0
HasToRank Max given choice = given ≡ Some choice
HasToRank Min given choice = Unit {0}

-- This choice has to be ranked, and each earlier choice that has to be ranked is ranked.
pub record IsNextToRank (q : Query) (value rank : ℕ → ℕ) (choices : List (Option ℕ)) (s choice : ℕ) : Type 0 where
  pub needs : NeedsRank q value s
  pub inside : choice < length (choices_of q.game s)
  pub asked : HasToRank (side_at q s) (slice_index_or choices s None) choice
  pub before : (c : ℕ) → c < choice → HasToRank (side_at q s) (slice_index_or choices s None) c
      → IsRankedChoice value rank s (choice_of q.game s c)

-- A choice lacks this first: it falls short of the value, or it gives at least the value but leads to no greater value
-- and to no equal one of smaller rank.
abbrev pub IsLackOf : (ℕ → ℕ) → (ℕ → ℕ) → ℕ → Distribution → ℕ → RankCause → Type 0
IsLackOf value rank s choice number Value = ⊥
IsLackOf value rank s choice number Choice = ⊥
IsLackOf value rank s choice number (Short c) = (c ≡ number) × IsShort value s choice
IsLackOf value rank s choice number (NoStep c) = (c ≡ number) × IsEnough value s choice
    × ¬ LeadsOnward value rank s choice

-- This is the first cause at the state.
abbrev pub IsCauseAt : Query → (ℕ → ℕ) → (ℕ → ℕ) → List (Option ℕ) → ℕ → RankCause → Type 0
IsCauseAt q value rank choices s Value = IsMisvalued q value s
IsCauseAt q value rank choices s Choice = NeedsRank q value s × (side_at q s ≡ Max) × ¬ HasChoice q choices s
IsCauseAt q value rank choices s (Short c) =
    IsNextToRank q value rank choices s c × IsLackOf value rank s (choice_of q.game s c) c (Short c)
IsCauseAt q value rank choices s (NoStep c) =
    IsNextToRank q value rank choices s c × IsLackOf value rank s (choice_of q.game s c) c (NoStep c)

-- All entries are at most the unit, and this is the first state where values, choices and ranks are refused, with its
-- cause.
pub record IsFirstUnranked (q : Query) (values : List ℕ) (choices : List (Option ℕ)) (ranks : List ℕ) (s : ℕ)
    (cause : RankCause) : Type 0 where
  pub units : All (λ v. v ≤ unit) values
  pub inside : s < states q
  pub caused : IsCauseAt q (slice_index values) (slice_index ranks) choices s cause
  pub before : (t : ℕ) → t < s → IsRankedAt q (slice_index values) (slice_index ranks) choices t

-- Values, choices and ranks have this one fault: an entry above the unit comes first.
abbrev pub IsRankFault : Query → List ℕ → List (Option ℕ) → List ℕ → ℕ → RankCause → Type 0
IsRankFault q values choices ranks s Value = IsFirstOver values s ⊎ IsFirstUnranked q values choices ranks s Value
IsRankFault q values choices ranks s Choice = IsFirstUnranked q values choices ranks s Choice
IsRankFault q values choices ranks s (Short c) = IsFirstUnranked q values choices ranks s (Short c)
IsRankFault q values choices ranks s (NoStep c) = IsFirstUnranked q values choices ranks s (NoStep c)
