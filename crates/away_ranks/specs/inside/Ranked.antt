-- This module defines choices and ranks of the states that have gone.
use Rattle.std.specs.Prelude.{◌≡◌, ℕ, ◌<◌, ◌≤◌, ◌⊎◌, Bool, true, false, List, length, All, count_by}
use Rattle.std.specs.Prelude.{slice_index, slice_index_or, Option, Some, None}
use Rattle.game_model.specs.declared.game.Side.TheVariants.{Max, Min}
use Rattle.game_model.specs.Game.{Distribution, choices_of, choice_of, no_edge}
use Rattle.game_model.specs.Query.{Query, states, is_goal, side_at}
use Rattle.almost_sure.specs.Values.{IsAway}
use Rattle.expected_rewards.specs.Turned.{turned}

-- This many states are marked.
abbrev pub how_many : List Bool → ℕ
how_many marks = count_by (λ b. b) marks

-- The state has gone.
abbrev pub HasGone : List Bool → ℕ → Type 0
HasGone gone s = slice_index_or gone s false ≡ true

-- Some successor of the choice has gone, with a smaller rank.
pub record SinksIn (gone : List Bool) (rank : ℕ → ℕ) (s : ℕ) (choice : Distribution) : Type 0 where
  pub place : ℕ
  pub inside : place < length choice.edges
  pub member : HasGone gone (slice_index_or choice.edges place no_edge).to
  pub down : rank (slice_index_or choice.edges place no_edge).to < rank s

-- Each successor of the choice has gone, with a rank that is no greater.
abbrev pub LingersIn : List Bool → (ℕ → ℕ) → ℕ → Distribution → Type 0
LingersIn gone rank s choice = All (λ e. HasGone gone e.to × (rank e.to ≤ rank s)) choice.edges

-- The choice sinks or lingers.
abbrev pub LeadsAway : List Bool → (ℕ → ℕ) → ℕ → Distribution → Type 0
LeadsAway gone rank s choice = SinksIn gone rank s choice ⊎ LingersIn gone rank s choice

-- The maximiser's choice at the state leads away, or each choice of the minimiser does.
pub record IsRankedAt (q : Query) (gone : List Bool) (choices : List (Option ℕ)) (rank : ℕ → ℕ)
    (s : ℕ) : Type 0 where
  pub greatest : side_at q s ≡ Max → (c : ℕ) × (slice_index_or choices s None ≡ Some c)
      × (c < length (choices_of q.game s)) × LeadsAway gone rank s (choice_of q.game s c)
  pub least : side_at q s ≡ Min → (c : ℕ) → c < length (choices_of q.game s)
      → LeadsAway gone rank s (choice_of q.game s c)

-- The states that have gone are ranked, and no rank is above the top. No goal has gone, and in the question with
-- exchanged sides the values of the states that have gone stay away from 1.
pub record AreRanked (q : Query) (gone : List Bool) (choices : List (Option ℕ)) (ranks : List ℕ)
    (top : ℕ) : Type 0 where
  pub many : length gone ≡ states q
  pub planned : length choices ≡ states q
  pub ranked : length ranks ≡ states q
  pub few : top ≤ how_many gone
  pub apart : (s : ℕ) → HasGone gone s → is_goal q s ≡ false
  pub away : (s : ℕ) → s < states q → HasGone gone s → IsAway (turned q) top s
  pub low : (s : ℕ) → HasGone gone s → slice_index ranks s ≤ top
  pub each : (s : ℕ) → HasGone gone s → IsRankedAt q gone choices (slice_index ranks) s
