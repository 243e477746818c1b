-- These are the definitions for what a search for ranks is about.
use Rattle.std.specs.Prelude.{ℕ, List, slice_index, Option, option_copied}
use Rattle.game_model.specs.Query.{states}
use Rattle.predecessors.specs.declared.lists.Move.{Move}
use Rattle.rank_certificate.specs.Ranking.{NeedsRank}
use Rattle.rank_certificate.specs.Carrying.{Carries, IsFirstCarrying}
use Rattle.rank_certificate.specs.inside.RankLayers.{AreRankLayers, IsApart, Looks, Follows, AreFollowed}
use Rattle.rank_certificate.specs.inside.RankLayers.{IsFinishedGrowth}
use Rattle.rank_certificate.specs.declared.asked.Asked.{Asked}
use Rattle.rank_certificate.specs.declared.layers.RankLayers.{RankLayers}

-- The question has this many states.
abbrev pub states_in : Asked → ℕ
states_in a = states a.question.now

-- The value of each state is its entry in the values.
abbrev pub value_in : Asked → ℕ → ℕ
value_in a = slice_index a.values.now

-- The search may be given choices.
abbrev pub only_in : Asked → Option (List (Option ℕ))
only_in a = option_copied a.only

-- The state has a positive value and is neither goal nor dead.
abbrev pub NeedsRankIn : Asked → ℕ → Type 0
NeedsRankIn a s = NeedsRank a.question.now (value_in a) s

-- The choice carries its state into these states.
abbrev pub CarriesIn : Asked → (ℕ → Type 0) → ℕ → ℕ → Type 0
CarriesIn a among s c = Carries a.question.now (value_in a) (only_in a) among s c

-- This is the first choice that carries its state into these states.
abbrev pub IsFirstCarryingIn : Asked → (ℕ → Type 0) → ℕ → ℕ → Type 0
IsFirstCarryingIn a among s c = IsFirstCarrying a.question.now (value_in a) (only_in a) among s c

-- The states up to a layer are found.
abbrev pub AreRankLayersIn : Asked → ℕ → ℕ → List ℕ → RankLayers → Type 0
AreRankLayersIn a level begin old g =
    AreRankLayers a.question.now (value_in a) (only_in a) level begin old g.ranks.items g.choices.items g.order.items

-- If the state has no rank, it is in no layer up to the next one.
abbrev pub IsApartIn : Asked → ℕ → RankLayers → ℕ → Type 0
IsApartIn a level g s = IsApart a.question.now (value_in a) (only_in a) level g.ranks.items s

-- The state was looked at.
abbrev pub LooksIn : Asked → ℕ → ℕ → RankLayers → RankLayers → Type 0
LooksIn a level s g g' = Looks a.question.now (value_in a) (only_in a) level s g.ranks.items g.choices.items
    g.order.items g'.ranks.items g'.choices.items g'.order.items

-- The moves of a part were followed to the state at hand.
abbrev pub FollowsIn : Asked → ℕ → ℕ → List Move → RankLayers → RankLayers → Type 0
FollowsIn a level hand part g g' = Follows a.question.now (value_in a) (only_in a) level hand part g.ranks.items
    g.choices.items g.order.items g'.ranks.items g'.choices.items g'.order.items

-- All moves were followed to the states of an order from one place up to another.
abbrev pub AreFollowedIn : Asked → ℕ → List ℕ → ℕ → ℕ → RankLayers → Type 0
AreFollowedIn a level old from upto g =
    AreFollowed a.question.now (value_in a) (only_in a) level old from upto g.ranks.items

-- All layers are found: no layer has a state without a rank.
abbrev pub IsFinishedGrowthIn : Asked → RankLayers → Type 0
IsFinishedGrowthIn a g = IsFinishedGrowth a.question.now (value_in a) (only_in a) g.ranks.items g.choices.items
