-- One more edge of a draft.
use Rattle.std.proofs.Common.{◌≡◌, ℕ, zero, suc, ◌+◌, ◌<◌, ◌≤◌, List, [], ◌∷◌, ◌++◌, length, get_or, arith, ap, ◌∙◌}
use Rattle.std.proofs.Common.{inl, inr, length-append, ◌*◌, ◌^◌, sum_by, add-zero}
use Rattle.std.specs.Prelude.{All, slice_index}
use Rattle.std.proofs.lemmas.Bool.{cases_lt}
use Rattle.std.proofs.lemmas.List.{get_or-map}
use Rattle.std.proofs.lemmas.List.Elements.{All-push}
use Rattle.std.proofs.lemmas.List.Sums.{sum_by-append, sum_by-cons}
use Rattle.game_model.specs.declared.game.Edge.{Edge}
use Rattle.game_model.specs.Game.{IsRising, destinations, no_edge}

-- an element of a list with one more
at_end : (edges : List Edge) (edge d : Edge) (i : ℕ) → i < length edges
    → get_or (edges ++ edge ∷ []) i d ≡ get_or edges i d
at_end [] edge d i l = absurd (omega arith)
at_end (e ∷ es) edge d zero l = λ k. e
at_end (e ∷ es) edge d (suc i) l = at_end es edge d i (omega arith)

last : (edges : List Edge) (edge d : Edge) (i : ℕ) → i ≡ length edges → get_or (edges ++ edge ∷ []) i d ≡ edge
last [] edge d zero l = λ k. edge
last [] edge d (suc i) l = absurd (omega arith)
last (e ∷ es) edge d zero l = absurd (omega arith)
last (e ∷ es) edge d (suc i) l = last es edge d i (omega arith)

to_at : (edges : List Edge) (i : ℕ) → i < length edges
    → slice_index (destinations edges) i ≡ (get_or edges i no_edge).to
to_at edges i l = get_or-map (λ (e : Edge). e.to) edges i no_edge 0 l

pub IsRising-more : (edges : List Edge) (edge : Edge) → IsRising edges → All (λ e. e.to < edge.to) edges
    → IsRising (edges ++ edge ∷ [])
IsRising-more edges edge rising below i j less inside =
    let count : length (edges ++ edge ∷ []) ≡ length edges + 1 = length-append edges (edge ∷ []) in
    let i_in : i < length edges = omega arith in
    let at_i : slice_index (destinations (edges ++ edge ∷ [])) i ≡ (get_or edges i no_edge).to =
    to_at (edges ++ edge ∷ []) i (omega arith) ∙ ap (λ (e : Edge). e.to) (at_end edges edge no_edge i i_in) in
    elim (cases_lt j (length edges)) [
      | inl within ↦
          let at_j : slice_index (destinations (edges ++ edge ∷ [])) j ≡ (get_or edges j no_edge).to =
          to_at (edges ++ edge ∷ []) j inside ∙ ap (λ (e : Edge). e.to) (at_end edges edge no_edge j within) in
          omega (arith, at_i, at_j, rising i j less within, to_at edges i i_in, to_at edges j within)
      | inr past ↦
          let at_j : slice_index (destinations (edges ++ edge ∷ [])) j ≡ edge.to =
          to_at (edges ++ edge ∷ []) j inside ∙ ap (λ (e : Edge). e.to) (last edges edge no_edge j (omega arith)) in
          omega (arith, at_i, at_j, below i no_edge i_in)
    ]

-- what holds of the edges so far
pub record AreEdges (states least : ℕ) (edges : List Edge) : Type 0 where
  pub few : length edges ≤ 8
  pub rising : IsRising edges
  pub below : All (λ e. e.to < least) edges
  pub inside : All (λ e. e.to < states) edges
  pub weights : All (λ e. 1 ≤ e.weight) edges
  pub small : sum_by (λ e. e.weight) edges ≤ length edges * 2 ^ 64

pub AreEdges-more : (states least : ℕ) (edges : List Edge) (edge : Edge) → AreEdges states least edges
    → length edges < 8 → least ≤ edge.to → edge.to < states → 1 ≤ edge.weight → edge.weight < 2 ^ 64
    → AreEdges states (edge.to + 1) (edges ++ edge ∷ [])
AreEdges-more states least edges edge h room above inside weight small =
    let count : length (edges ++ edge ∷ []) ≡ length edges + 1 = length-append edges (edge ∷ []) in
    let sum : sum_by (λ e. e.weight) (edges ++ edge ∷ [])
    ≡ sum_by (λ e. e.weight) edges + sum_by (λ e. e.weight) (edge ∷ []) =
    sum_by-append (λ (e : Edge). e.weight) edges (edge ∷ []) in
    let one : sum_by (λ e. e.weight) (edge ∷ []) ≡ edge.weight =
    sum_by-cons (λ (e : Edge). e.weight) edge [] ∙ add-zero edge.weight in
    let so_far = h.small in record {
      few = omega arith;
      rising = IsRising-more edges edge h.rising (λ k d l. omega (arith, h.below k d l));
      below = All-push (λ e. e.to < edge.to + 1) edges edge (λ k d l. omega (arith, h.below k d l)) (omega arith);
      inside = All-push (λ e. e.to < states) edges edge h.inside inside;
      weights = All-push (λ e. 1 ≤ e.weight) edges edge h.weights weight;
      small = omega arith;
    }
