-- This module defines the layered ranks: the least that prove values with given choices.
use Rattle.std.specs.Prelude.{◌≡◌, ℕ, zero, suc, ◌<◌, ◌≤◌, ◌⊎◌, List, length, slice_index, slice_index_or, Option, None}
use Rattle.game_model.specs.Game.{Distribution, choices_of, choice_of, no_edge}
use Rattle.game_model.specs.Query.{Query, states, side_at}
use Rattle.game_model.specs.Ranks.{Ranked}
use Rattle.rank_certificate.specs.Ranking.{NeedsRank}
use Rattle.rank_certificate.specs.Faults.{HasToRank}

-- Some ranks prove these values with these choices.
abbrev pub IsRankable : Query → List ℕ → List (Option ℕ) → Type 0
IsRankable q values choices = (ranks : List ℕ) × Ranked q values choices ranks

-- The choice is in range and has to be ranked.
abbrev pub MustBeRanked : Query → List (Option ℕ) → ℕ → ℕ → Type 0
MustBeRanked q choices s c =
    (c < length (choices_of q.game s)) × HasToRank (side_at q s) (slice_index_or choices s None) c

-- A successor of the choice has a greater value, or it has an equal one and is one of these states.
pub record LeadsInto (value : ℕ → ℕ) (among : ℕ → Type 0) (s : ℕ) (choice : Distribution) : Type 0 where
  pub place : ℕ
  pub inside : place < length choice.edges
  pub onward : (value s < value (slice_index_or choice.edges place no_edge).to)
      ⊎ ((value (slice_index_or choice.edges place no_edge).to ≡ value s)
      × among (slice_index_or choice.edges place no_edge).to)

-- A state is of rank r or less if it needs no rank, or if its choices that have to be ranked all lead to a greater
-- value, or to an equal one of smaller rank.
unfoldable pub IsWithin : Query → (ℕ → ℕ) → List (Option ℕ) → ℕ → ℕ → Type 0
IsWithin q value choices zero s = ¬ NeedsRank q value s
IsWithin q value choices (suc r) s =
    ¬ NeedsRank q value s ⊎ ((c : ℕ) → MustBeRanked q choices s c
    → LeadsInto value (IsWithin q value choices r) s (choice_of q.game s c))

-- The layer of a state is the least such r.
pub record IsLayer (q : Query) (value : ℕ → ℕ) (choices : List (Option ℕ)) (s r : ℕ) : Type 0 where
  pub within : IsWithin q value choices r s
  pub least : (k : ℕ) → IsWithin q value choices k s → r ≤ k

-- Each rank is the layer of its state.
pub record AreLayered (q : Query) (values : List ℕ) (choices : List (Option ℕ)) (ranks : List ℕ) : Type 0 where
  pub as_many : length ranks ≡ states q
  pub each : (s : ℕ) → s < states q → IsLayer q (slice_index values) choices s (slice_index ranks s)
