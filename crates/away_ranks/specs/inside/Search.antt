-- This module defines a search for the states that go.
use Rattle.std.specs.Prelude.{◌≡◌, ℕ, ◌+◌, ◌<◌, Bool, true, false, List, [], ◌∷◌, ◌++◌, length, All}
use Rattle.std.specs.Prelude.{slice_index, slice_index_or, slice_set}
use Rattle.game_model.specs.Game.{choice_of}
use Rattle.game_model.specs.Query.{Query, states}
use Rattle.attractors.specs.Attractor.{dead_excluded, serves}
use Rattle.away_ranks.specs.declared.search.AwaySearch.{AwaySearch}
use Rattle.away_ranks.specs.inside.Ranked.{how_many, HasGone, AreRanked}

-- Before the choice for which a state waits, each choice has a successor that has gone.
pub record AreWaits (q : Query) (gone : List Bool) (waits : List ℕ) : Type 0 where
  pub many : length waits ≡ states q
  pub before : (s c : ℕ) → s < states q → c < slice_index waits s
      → serves (dead_excluded q) gone (choice_of q.game s c) ≡ true

-- The search has ranked the states that have gone, and still has to follow some of them.
pub record IsAwaySearch (q : Query) (search : AwaySearch) : Type 0 where
  pub ranked : AreRanked q search.gone.items search.choices.items search.ranks.items search.top
  pub waits : AreWaits q search.gone.items search.waits.items
  pub todo : All (HasGone search.gone.items) search.todo.items

-- A state that has joined has gone with this rank, and is still to be followed.
pub record HasJoined (s rank : ℕ) (old new : AwaySearch) : Type 0 where
  pub gone : new.gone.items ≡ slice_set old.gone.items s true
  pub ranks : new.ranks.items ≡ slice_set old.ranks.items s rank
  pub todo : new.todo.items ≡ old.todo.items ++ s ∷ []
  pub choices : new.choices.items ≡ old.choices.items
  pub waits : new.waits.items ≡ old.waits.items
  pub top : new.top ≡ old.top

-- As many states have joined those that are still to be followed as have gone.
abbrev pub IsBalanced : AwaySearch → AwaySearch → Type 0
IsBalanced old new =
    length new.todo.items + how_many old.gone.items ≡ length old.todo.items + how_many new.gone.items

-- Of the first states those that are not left have gone, each with this rank unless it had gone before.
pub record HasLetGo (left : List Bool) (rank upto : ℕ) (more : Bool) (old new : AwaySearch) : Type 0 where
  pub many : length new.gone.items ≡ length old.gone.items
  pub ranked : length new.ranks.items ≡ length old.ranks.items
  pub choices : new.choices.items ≡ old.choices.items
  pub waits : new.waits.items ≡ old.waits.items
  pub top : new.top ≡ old.top
  pub larger : (s : ℕ) → HasGone old.gone.items s → HasGone new.gone.items s
  pub kept : (s : ℕ) → HasGone old.gone.items s
      → slice_index new.ranks.items s ≡ slice_index old.ranks.items s
  pub all : (s : ℕ) → s < upto → slice_index_or left s false ≡ false → HasGone new.gone.items s
  pub only : (s : ℕ) → HasGone new.gone.items s → slice_index_or old.gone.items s false ≡ false
      → (slice_index_or left s false ≡ false) × (slice_index new.ranks.items s ≡ rank)
  pub todo : All (HasGone new.gone.items) new.todo.items
  pub none : more ≡ false → (new.gone.items ≡ old.gone.items) × (new.ranks.items ≡ old.ranks.items)
  pub some : more ≡ true → how_many old.gone.items < how_many new.gone.items
