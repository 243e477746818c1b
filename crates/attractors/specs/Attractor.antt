-- The attractor of the goals is a set that grew from them by the states that it attracts, and that attracts no more.
use Rattle.std.specs.Prelude.{◌≡◌, ℕ, ◌<◌, Bool, true, false, not, ◌&&◌, List, length, slice_index_or, slice_set}
use Rattle.std.specs.List.{list_any, list_all}
use Rattle.game_model.specs.declared.game.Side.{Side}
use Rattle.game_model.specs.declared.game.Side.TheVariants.{Max, Min}
use Rattle.game_model.specs.Game.{Distribution, choices_of}
use Rattle.game_model.specs.Query.{Query, states, is_goal, is_dead, side_at}

-- Excluded states may not join, and excluded choices attract no state. Both stay in the game, so an excluded choice of
-- the minimiser is a way out for it.
pub record ExcludedSets : Type 0 where
  pub states : ℕ → Bool
  pub choices : Distribution → Bool

-- Only the dead states are excluded.
abbrev pub dead_excluded : Query → ExcludedSets
dead_excluded q = record { states = is_dead q; choices = λ _. false }

-- Some successor of the choice is in the set.
abbrev pub meets : List Bool → Distribution → Bool
meets set choice = list_any (λ e. slice_index_or set e.to false) choice.edges

-- A choice serves if it is not excluded and some successor is in the set.
abbrev pub serves : ExcludedSets → List Bool → Distribution → Bool
serves excluded set choice = not (excluded.choices choice) && meets set choice

-- The set attracts a state of the maximiser if some choice serves, and a state of the minimiser if each choice does.
abbrev pub attracts : Side → ExcludedSets → List Bool → List Distribution → Bool
attracts Max excluded set choices = list_any (serves excluded set) choices
attracts Min excluded set choices = list_all (serves excluded set) choices

-- The set attracts the state.
abbrev pub is_attracted : Query → ExcludedSets → List Bool → ℕ → Bool
is_attracted q excluded set s = attracts (side_at q s) excluded set (choices_of q.game s)

-- The set has the goals and no other state.
pub record AreGoals (q : Query) (set : List Bool) : Type 0 where
  pub many : length set ≡ states q
  pub each : (s : ℕ) → s < states q → slice_index_or set s false ≡ is_goal q s

-- The set grew from the goals, excluded or not: states joined one after another, each not excluded and attracted by the
-- set.
pub data Grew (q : Query) (excluded : ExcludedSets) : List Bool → Type 0 where
  from_goals : (set : List Bool) → AreGoals q set → Grew q excluded set
  with_state : (set : List Bool) (s : ℕ) → Grew q excluded set → s < states q → excluded.states s ≡ false
      → is_attracted q excluded set s ≡ true → Grew q excluded (slice_set set s true)

-- The set attracts no other state that is not excluded.
abbrev pub IsClosed : Query → ExcludedSets → List Bool → Type 0
IsClosed q excluded set = (s : ℕ) → s < states q → slice_index_or set s false ≡ false → excluded.states s ≡ false
    → is_attracted q excluded set s ≡ false

-- The attractor grew from the goals, and attracts no other state that is not excluded.
pub record IsAttractor (q : Query) (excluded : ExcludedSets) (set : List Bool) : Type 0 where
  pub many : length set ≡ states q
  pub grew : Grew q excluded set
  pub closed : IsClosed q excluded set
