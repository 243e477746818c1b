-- Steps look at successors alone.
use Rattle.std.proofs.Common.{ℕ, ◌*◌, ◌/◌, ◌<◌, ◌≤◌, List, length, arith, slice_index_or}
use Rattle.std.proofs.Math.Nat.{div-mul-le_self}
use Rattle.std.proofs.lemmas.Nat.{le-div}
use Rattle.std.proofs.lemmas.List.{get_or-map, length-map}
use Rattle.std.proofs.lemmas.List.Elements.{All-from_get_or}
use Rattle.game_model.specs.declared.game.Edge.{Edge}
use Rattle.game_model.specs.Game.{Distribution, choices_of, choice_of, no_distribution, no_edge}
use Rattle.game_model.specs.Query.{Query, IsQuery, states}
use Rattle.game_model.specs.Limits.{unit}
use Rattle.game_model.specs.Values.{weighted_sum}
use Rattle.game_model.specs.Rounded.{down_value, down_step}
use Rattle.game_model.proofs.Choices.{IsChoiceOf, IsChoiceOf-choice_of}
use Rattle.game_model.proofs.Best.{weighted_sum-le}
use Rattle.game_model.proofs.Rises.{bellman-le}
use Rattle.predecessors.specs.Moves.{LeadsTo}

-- an edge of a choice leads where it says
pub edge-leads : (game : List (List Distribution)) (s c p : ℕ) → s < length game → c < length (choices_of game s)
    → p < length (choice_of game s c).edges → LeadsTo game s c (slice_index_or (choice_of game s c).edges p no_edge).to
edge-leads game s c p ls lc lp = record {
  state = ls;
  choice = lc;
  successor = (
    p,
    omega (arith, lp, length-map (choice_of game s c).edges (λ (e : Edge). e.to)),
    get_or-map (λ (e : Edge). e.to) (choice_of game s c).edges p no_edge
        (slice_index_or (choice_of game s c).edges p no_edge).to lp,
  );
}

-- the value of a choice looks only at its successors
choice-of-successors : (q : Query) (v w : ℕ → ℕ) (s c : ℕ) → IsQuery q → s < states q
    → c < length (choices_of q.game s) → ((t : ℕ) → t < states q → LeadsTo q.game s c t → v t ≤ w t)
    → down_value v (choice_of q.game s c) ≤ down_value w (choice_of q.game s c)
choice-of-successors q v w s c h inside chosen each =
    let m : Distribution = choice_of q.game s c in
    let edges : List Edge = m.edges in
    let fits : IsChoiceOf q.game m = IsChoiceOf-choice_of q.game s c h.game inside chosen in
    let one : (p : ℕ) → p < length edges
    → v (slice_index_or edges p no_edge).to ≤ w (slice_index_or edges p no_edge).to =
    λ p there. each (slice_index_or edges p no_edge).to (fits.inside p no_edge there)
    (edge-leads q.game s c p inside chosen there) in
    let sums : 1 * weighted_sum v edges ≤ 1 * weighted_sum w edges =
    weighted_sum-le v w 1 1 edges
    (All-from_get_or (λ (e : Edge). 1 * v e.to ≤ 1 * w e.to) edges no_edge (λ p there. omega (arith, one p there))) in
    le-div (weighted_sum v edges / m.total) (weighted_sum w edges) m.total fits.positive
    (omega (arith, sums, div-mul-le_self (weighted_sum v edges) m.total))

-- a step looks only at the successors of its state
pub step-of-successors : (q : Query) (v w : ℕ → ℕ) (s : ℕ) → IsQuery q → s < states q
    → ((c t : ℕ) → t < states q → LeadsTo q.game s c t → v t ≤ w t) → down_step q v s ≤ down_step q w s
step-of-successors q v w s h inside each =
    let step : 1 * down_step q v s ≤ 1 * down_step q w s =
    bellman-le q (choices_of q.game) 1 1 unit unit (down_value v) (down_value w) s (omega arith)
    (All-from_get_or (λ (m : Distribution). 1 * down_value v m ≤ 1 * down_value w m) (choices_of q.game s)
    no_distribution (λ c chosen. omega (arith, choice-of-successors q v w s c h inside chosen (each c)))) in
    omega (arith, step)
