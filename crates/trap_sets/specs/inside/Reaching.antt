-- This module says what searches from the roots of all parts reach, along internal choices or against them.
use Rattle.std.specs.Prelude.{◌≡◌, ◌⊎◌, ℕ, ◌+◌, ◌<◌, Bool, true, false, List, length, slice_index, slice_index_or}
use Rattle.game_model.specs.Growing.{IsLonger}
use Rattle.attractors.specs.Search.{IsOrder, IsLarger}
use Rattle.trap_sets.specs.declared.internal.Internal.{Internal}
use Rattle.trap_sets.specs.declared.reach.Way.{Way}
use Rattle.trap_sets.specs.declared.reach.Way.TheVariants.{On, Back}
use Rattle.trap_sets.specs.Moves.{Reach}
use Rattle.trap_sets.specs.inside.Parts.{root_of}
use Rattle.trap_sets.specs.inside.OfInternal.{states_of, IsStepOf}

-- A search that goes this way passes from the first state to the second.
abbrev pub Passes : Internal → Way → ℕ → ℕ → Type 0
Passes internal On s t = IsStepOf internal s t
Passes internal Back s t = IsStepOf internal t s

-- More states are marked, and a fact holds for each new one. The order lists the marked states, each once.
pub record IsMore (P : ℕ → Type 0) (marks : List Bool) (order : List ℕ) (marks' : List Bool)
    (order' : List ℕ) : Type 0 where
  pub many : length marks' ≡ length marks
  pub ordered : IsOrder marks' order'
  pub longer : IsLonger order order'
  pub larger : IsLarger marks marks'
  pub only : (s : ℕ) → slice_index_or marks' s false ≡ true → (slice_index_or marks s false ≡ true) ⊎ P s

-- The roots are marked, and a search comes to each marked state from the root of its part.
pub record IsReached (internal : Internal) (way : Way) (marks : List Bool) : Type 0 where
  pub many : length marks ≡ states_of internal
  pub roots : (s : ℕ) → s < states_of internal → slice_index internal.part.now s ≡ s + 1
      → slice_index_or marks s false ≡ true
  pub met : (s : ℕ) → slice_index_or marks s false ≡ true → Reach (Passes internal way) (root_of internal.part.now s) s

-- In addition, the search has passed on from this many states, the first ones of the order.
pub record IsReaching (internal : Internal) (way : Way) (marks : List Bool) (order : List ℕ) (place : ℕ) : Type 0 where
  pub reached : IsReached internal way marks
  pub ordered : IsOrder marks order
  pub passed : (k t : ℕ) → k < place → k < length order → Passes internal way (slice_index order k) t
      → slice_index_or marks t false ≡ true

-- In addition, the search has passed on from all marked states.
pub record AreReached (internal : Internal) (way : Way) (marks : List Bool) : Type 0 where
  pub reached : IsReached internal way marks
  pub closed : (s t : ℕ) → slice_index_or marks s false ≡ true → Passes internal way s t
      → slice_index_or marks t false ≡ true
