-- Edges that rise one behind another rise by their places, and the other way round.
use Rattle.std.proofs.Common.{◌<◌, ◌≤◌, ◌+◌, ℕ, zero, suc, List, [], ◌∷◌, length, get_or, arith}
use Rattle.std.specs.Prelude.{All, slice_index}
use Rattle.std.proofs.lemmas.List.Elements.{All-nil, All-cons}
use Rattle.game_model.specs.declared.game.Edge.{Edge}
use Rattle.game_model.specs.Game.{IsRising, destinations}
use Rattle.game_model.specs.Rising.{RiseFrom}

pub RiseFrom-less : (less least : ℕ) (edges : List Edge) → less ≤ least → RiseFrom least edges → RiseFrom less edges
RiseFrom-less less least [] h rise = tt
RiseFrom-less less least (e ∷ edges) h rise = (omega (arith, rise.0), rise.1, rise.2)

least-at : (least : ℕ) (edges : List Edge) (j : ℕ) → RiseFrom least edges → j < length edges
    → least ≤ slice_index (destinations edges) j
least-at least [] j rise h = absurd (omega arith)
least-at least (e ∷ edges) zero rise h = rise.0
least-at least (e ∷ edges) (suc j) rise h = omega (arith, least-at (e.to + 1) edges j rise.2 (omega arith), rise.0)

pub IsRising-from : (least : ℕ) (edges : List Edge) → RiseFrom least edges → IsRising edges
IsRising-from least [] rise i j h l = absurd (omega arith)
IsRising-from least (e ∷ edges) rise zero zero h l = absurd (omega arith)
IsRising-from least (e ∷ edges) rise zero (suc j) h l = omega (arith, least-at (e.to + 1) edges j rise.2 (omega arith))
IsRising-from least (e ∷ edges) rise (suc i) zero h l = absurd (omega arith)
IsRising-from least (e ∷ edges) rise (suc i) (suc j) h l =
    IsRising-from (e.to + 1) edges rise.2 i j (omega arith) (omega arith)

pub weighty-from : (least : ℕ) (edges : List Edge) → RiseFrom least edges → All (λ e. 1 ≤ e.weight) edges
weighty-from least [] rise = All-nil (λ (e : Edge). 1 ≤ e.weight)
weighty-from least (e ∷ edges) rise =
    All-cons (λ (e : Edge). 1 ≤ e.weight) e edges rise.1 (weighty-from (e.to + 1) edges rise.2)

-- from the places of a list
pub RiseFrom-rising : (least : ℕ) (edges : List Edge) → ((d : Edge) → 0 < length edges → least ≤ (get_or edges 0 d).to)
    → IsRising edges → All (λ e. 1 ≤ e.weight) edges → RiseFrom least edges
RiseFrom-rising least [] first rising weighty = tt
RiseFrom-rising least (e ∷ edges) first rising weighty = (
  first e (omega arith),
  weighty 0 e (omega arith),
  RiseFrom-rising (e.to + 1) edges (next edges rising) (λ i j h l. rising (suc i) (suc j) (omega arith) (omega arith))
      (λ k d l. weighty (suc k) d (omega arith)),
)
  where
    next : (rest : List Edge) → IsRising (e ∷ rest) → (d : Edge) → 0 < length rest → e.to + 1 ≤ (get_or rest 0 d).to
    next [] up d h = absurd (omega arith)
    next (f ∷ rest) up d h = let less : e.to < f.to = up 0 1 (omega arith) (omega arith) in omega arith
