-- This module defines the least ranks, and the first choices for them, that prove values.
use Rattle.std.specs.Prelude.{◌≡◌, ℕ, zero, suc, ◌<◌, ◌≤◌, ◌⊎◌, true, List, length, slice_index, slice_index_or, Option}
use Rattle.std.specs.Prelude.{Some, None, IsSomeAnd}
use Rattle.std.specs.Option.{ForSome}
use Rattle.game_model.specs.declared.game.Side.{Side}
use Rattle.game_model.specs.declared.game.Side.TheVariants.{Max, Min}
use Rattle.game_model.specs.Game.{choices_of, choice_of}
use Rattle.game_model.specs.Query.{Query, states, is_goal, side_at}
use Rattle.game_model.specs.Limits.{unit}
use Rattle.game_model.specs.Rounded.{down_step}
use Rattle.game_model.specs.Ranks.{Ranked}
use Rattle.rank_certificate.specs.Ranking.{IsEnough, NeedsRank}
use Rattle.rank_certificate.specs.Faults.{HasToRank}
use Rattle.rank_certificate.specs.Layers.{LeadsInto}

-- Some choices and ranks prove these values.
abbrev pub CanBeRanked : Query → List ℕ → Type 0
CanBeRanked q values = (choices : List (Option ℕ)) × (ranks : List ℕ) × Ranked q values choices ranks

-- If choices of the maximiser are given, these may be taken and each choice of the minimiser. If none are given, each
-- choice that gives its state at least the value may be taken.
abbrev pub MayTake : Query → (ℕ → ℕ) → Option (List (Option ℕ)) → ℕ → ℕ → Type 0
MayTake q value None s c = IsEnough value s (choice_of q.game s c)
MayTake q value (Some choices) s c = HasToRank (side_at q s) (slice_index_or choices s None) c

-- If choices are given, each state has an entry.
abbrev pub AreOfStates : Query → Option (List (Option ℕ)) → Type 0
AreOfStates q only = ForSome only (λ choices. length choices ≡ states q)

-- The choice may be taken, and leads to a greater value, or to an equal one of these states.
pub record Carries (q : Query) (value : ℕ → ℕ) (only : Option (List (Option ℕ))) (among : ℕ → Type 0)
    (s c : ℕ) : Type 0 where
  pub may : MayTake q value only s c
  pub leads : LeadsInto value among s (choice_of q.game s c)

-- Some choice of the maximiser, or every choice of the minimiser, carries the state.
abbrev pub IsCarriedBy : Side → Query → (ℕ → ℕ) → Option (List (Option ℕ)) → (ℕ → Type 0) → ℕ → Type 0
IsCarriedBy Max q value only among s = (c : ℕ) × (c < length (choices_of q.game s)) × Carries q value only among s c
IsCarriedBy Min q value only among s = (c : ℕ) → c < length (choices_of q.game s) → Carries q value only among s c

-- A state is of rank r or less if it needs no rank, or if it is carried into the states of smaller rank.
unfoldable pub IsCarried : Query → (ℕ → ℕ) → Option (List (Option ℕ)) → ℕ → ℕ → Type 0
IsCarried q value only zero s = ¬ NeedsRank q value s
IsCarried q value only (suc r) s = ¬ NeedsRank q value s ⊎ IsCarriedBy (side_at q s) q value only
    (IsCarried q value only r) s

-- The rank of a state is the least such r.
pub record IsCarriedAt (q : Query) (value : ℕ → ℕ) (only : Option (List (Option ℕ))) (s r : ℕ) : Type 0 where
  pub within : IsCarried q value only r s
  pub least : (k : ℕ) → IsCarried q value only k s → r ≤ k

-- This is the first choice that carries the state into these states.
pub record IsFirstCarrying (q : Query) (value : ℕ → ℕ) (only : Option (List (Option ℕ))) (among : ℕ → Type 0)
    (s choice : ℕ) : Type 0 where
  pub inside : choice < length (choices_of q.game s)
  pub carries : Carries q value only among s choice
  pub before : (c : ℕ) → c < choice → ¬ Carries q value only among s c

-- The maximiser takes the first such choice, and the minimiser has none.
abbrev pub IsChosen : Side → Query → (ℕ → ℕ) → Option (List (Option ℕ)) → (ℕ → Type 0) → ℕ → Option ℕ → Type 0
IsChosen Max q value only among s choice = IsSomeAnd choice (IsFirstCarrying q value only among s)
IsChosen Min q value only among s choice = choice ≡ None

-- A state has this choice for its rank: none for rank 0.
abbrev pub IsChosenAt : Query → (ℕ → ℕ) → Option (List (Option ℕ)) → ℕ → ℕ → Option ℕ → Type 0
IsChosenAt q value only s zero choice = choice ≡ None
IsChosenAt q value only s (suc r) choice = IsChosen (side_at q s) q value only (IsCarried q value only r) s choice

-- The plan has the least ranks, and the choices for them.
pub record IsLayeredPlan (q : Query) (values : List ℕ) (choices : List (Option ℕ)) (ranks : List ℕ) : Type 0 where
  pub many : length ranks ≡ states q
  pub as_many : length choices ≡ states q
  pub each : (s : ℕ) → s < states q → IsCarriedAt q (slice_index values) None s (slice_index ranks s)
  pub chosen : (s : ℕ) → s < states q → IsChosenAt q (slice_index values) None s (slice_index ranks s)
      (slice_index_or choices s None)

-- The state does not refuse the values at once: its entry is at most its down step, and the entry of a goal is the
-- unit.
pub record Stands (q : Query) (value : ℕ → ℕ) (s : ℕ) : Type 0 where
  pub goal : is_goal q s ≡ true → value s ≡ unit
  pub step : value s ≤ down_step q value s
