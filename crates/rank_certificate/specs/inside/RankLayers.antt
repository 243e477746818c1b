-- Ranks and choices are found layer by layer.
use Rattle.std.specs.Prelude.{◌≡◌, ℕ, ◌+◌, ◌<◌, ◌≤◌, ◌⊎◌, List, [], ◌∷◌, ◌++◌, length, slice_index, slice_index_or}
use Rattle.std.specs.Prelude.{slice_set, count_by, Option, Some, None, IsSomeAnd, is_some, Contains}
use Rattle.game_model.specs.Query.{Query, states, side_at}
use Rattle.game_model.specs.Growing.{IsLonger}
use Rattle.predecessors.specs.declared.lists.Move.{Move}
use Rattle.predecessors.specs.Moves.{move, LeadsTo}
use Rattle.rank_certificate.specs.Ranking.{NeedsRank}
use Rattle.rank_certificate.specs.Carrying.{Carries, IsCarriedBy, IsCarried, IsCarriedAt, IsChosen, IsChosenAt}

-- A rank was found for the state, and it is this one or less.
abbrev pub HasRankWithin : List (Option ℕ) → ℕ → ℕ → Type 0
HasRankWithin ranks level s = IsSomeAnd (slice_index_or ranks s None) (λ r. r ≤ level)

-- Of the first `count` states those that need no rank are in layer 0. The order lists them.
pub record IsOpened (q : Query) (value : ℕ → ℕ) (count : ℕ) (ranks : List (Option ℕ)) (order : List ℕ) : Type 0 where
  pub many : length ranks ≡ count
  pub few : length order ≡ count_by is_some ranks
  pub found : (s r : ℕ) → slice_index_or ranks s None ≡ Some r → (r ≡ 0) × ¬ NeedsRank q value s × Contains order s
  pub needs : (s : ℕ) → s < count → slice_index_or ranks s None ≡ None → NeedsRank q value s
  pub listed : (k : ℕ) → k < length order → slice_index_or ranks (slice_index order k) None ≡ Some 0

-- The states up to this layer are found. Those of the layer are in the old order from a place on. Those of the next
-- layer are in the new part of the order.
pub record AreRankLayers (q : Query) (value : ℕ → ℕ) (only : Option (List (Option ℕ))) (level begin : ℕ) (old : List ℕ)
    (ranks choices : List (Option ℕ)) (order : List ℕ) : Type 0 where
  pub many : length ranks ≡ states q
  pub as_many : length choices ≡ states q
  pub few : length order ≡ count_by is_some ranks
  pub longer : IsLonger old order
  pub inside : (k : ℕ) → k < length order → slice_index order k < states q
  pub most : (s r : ℕ) → slice_index_or ranks s None ≡ Some r → r ≤ level + 1
  pub now : (s : ℕ) → slice_index_or ranks s None ≡ Some level
      → (k : ℕ) × (begin ≤ k) × (k < length old) × (slice_index old k ≡ s)
  pub next : (s : ℕ) → slice_index_or ranks s None ≡ Some (level + 1)
      → (k : ℕ) × (length old ≤ k) × (k < length order) × (slice_index order k ≡ s)
  pub layer : (s r : ℕ) → slice_index_or ranks s None ≡ Some r → IsCarriedAt q value only s r
  pub chosen : (s r : ℕ) → slice_index_or ranks s None ≡ Some r
      → IsChosenAt q value only s r (slice_index_or choices s None)
  pub full : (s : ℕ) → s < states q → IsCarried q value only level s → HasRankWithin ranks level s
  pub needs : (s : ℕ) → s < states q → slice_index_or ranks s None ≡ None → NeedsRank q value s

-- If the state has no rank, it is in no layer up to the next one.
abbrev pub IsApart : Query → (ℕ → ℕ) → Option (List (Option ℕ)) → ℕ → List (Option ℕ) → ℕ → Type 0
IsApart q value only level ranks s = slice_index_or ranks s None ≡ None → ¬ IsCarried q value only (level + 1) s

-- If the state has no rank although this choice carries it, the state is not carried on.
abbrev pub IsApartBy : Query → (ℕ → ℕ) → Option (List (Option ℕ)) → ℕ → List (Option ℕ) → ℕ → ℕ → Type 0
IsApartBy q value only level ranks s c =
    slice_index_or ranks s None ≡ None → Carries q value only (IsCarried q value only level) s c
    → ¬ IsCarriedBy (side_at q s) q value only (IsCarried q value only level) s

-- The state stays unchanged, because it has a rank or is not carried on.
pub record Stays (q : Query) (value : ℕ → ℕ) (only : Option (List (Option ℕ))) (level s : ℕ)
    (ranks choices : List (Option ℕ)) (order : List ℕ) (ranks' choices' : List (Option ℕ))
    (order' : List ℕ) : Type 0 where
  pub left : slice_index_or ranks s None ≡ None → ¬ IsCarriedBy (side_at q s) q value only (HasRankWithin ranks level) s
  pub new_ranks : ranks' ≡ ranks
  pub new_choices : choices' ≡ choices
  pub new_order : order' ≡ order

-- A state without a rank that is carried on joins the next layer, with a choice for it.
pub record Joins (q : Query) (value : ℕ → ℕ) (only : Option (List (Option ℕ))) (level s : ℕ)
    (ranks choices : List (Option ℕ)) (order : List ℕ) (ranks' choices' : List (Option ℕ))
    (order' : List ℕ) : Type 0 where
  pub none : slice_index_or ranks s None ≡ None
  pub carried : IsCarriedBy (side_at q s) q value only (HasRankWithin ranks level) s
  pub choice : Option ℕ
  pub chosen : IsChosen (side_at q s) q value only (HasRankWithin ranks level) s choice
  pub new_ranks : ranks' ≡ slice_set ranks s (Some (level + 1))
  pub new_choices : choices' ≡ slice_set choices s choice
  pub new_order : order' ≡ order ++ s ∷ []

-- The state was looked at: it stays unchanged, or joins the next layer.
abbrev pub Looks : Query → (ℕ → ℕ) → Option (List (Option ℕ)) → ℕ → ℕ → List (Option ℕ) → List (Option ℕ) → List ℕ
    → List (Option ℕ) → List (Option ℕ) → List ℕ → Type 0
Looks q value only level s ranks choices order ranks' choices' order' =
    Stays q value only level s ranks choices order ranks' choices' order'
    ⊎ Joins q value only level s ranks choices order ranks' choices' order'

-- The moves of a part were followed to the state at hand. If a state has the same value and no rank, although the
-- choice of the move carries it, the state is not carried on.
pub record Follows (q : Query) (value : ℕ → ℕ) (only : Option (List (Option ℕ))) (level hand : ℕ) (part : List Move)
    (ranks choices : List (Option ℕ)) (order : List ℕ) (ranks' choices' : List (Option ℕ))
    (order' : List ℕ) : Type 0 where
  pub many : length ranks' ≡ length ranks
  pub as_many : length choices' ≡ length choices
  pub kept : (s : ℕ) → slice_index_or ranks' s None ≡ None → slice_index_or ranks s None ≡ None
  pub grown : (begin : ℕ) (old : List ℕ) → AreRankLayers q value only level begin old ranks choices order
      → AreRankLayers q value only level begin old ranks' choices' order'
  pub apart : (begin : ℕ) (old : List ℕ) → AreRankLayers q value only level begin old ranks choices order
      → (s c : ℕ) → Contains part (move s c) → value hand ≡ value s → IsApartBy q value only level ranks' s c

-- All moves were followed to the states of an order from one place up to another.
abbrev pub AreFollowed : Query → (ℕ → ℕ) → Option (List (Option ℕ)) → ℕ → List ℕ → ℕ → ℕ → List (Option ℕ) → Type 0
AreFollowed q value only level old from upto ranks =
    (k s c : ℕ) → from ≤ k → k < upto → LeadsTo q.game s c (slice_index old k) → value (slice_index old k) ≡ value s
    → IsApartBy q value only level ranks s c

-- All layers are found: no layer has a state without a rank.
pub record IsFinishedGrowth (q : Query) (value : ℕ → ℕ) (only : Option (List (Option ℕ)))
    (ranks choices : List (Option ℕ)) : Type 0 where
  pub level : ℕ
  pub begin : ℕ
  pub order : List ℕ
  pub positive : 1 ≤ level
  pub done : length order ≤ begin
  pub layers : AreRankLayers q value only level begin order ranks choices order
