-- Edges as two lists: their successors and their weights.
use Rattle.std.proofs.Common.{◌≡◌, ℕ, zero, suc, ◌<◌, List, [], ◌∷◌, length, map, get_or, sum_by, refl, sym, ap, ◌∙◌}
use Rattle.std.proofs.Common.{subst, arith}
use Rattle.std.specs.Prelude.{All}
use Rattle.std.proofs.lemmas.List.{length-map}
use Rattle.std.proofs.lemmas.List.Elements.{All-map}
use Rattle.game_model.specs.declared.game.Edge.{Edge}
use Rattle.game_model.specs.Game.{Distribution, IsDistribution, no_edge}
use Rattle.fixed_bellman.specs.Sums.{edges_of, weight_of_all, IsSumBetween}

pub edges_of-lists : (edges : List Edge) → edges_of (map (λ e. e.to) edges) (map (λ e. e.weight) edges) ≡ edges
edges_of-lists [] = refl
edges_of-lists (e ∷ edges) = ap (λ es. e ∷ es) (edges_of-lists edges)

pub length-edges_of : (successors weights : List ℕ) → length weights ≡ length successors
    → length (edges_of successors weights) ≡ length successors
length-edges_of [] weights same = refl
length-edges_of (t ∷ ts) [] same = absurd (omega arith)
length-edges_of (t ∷ ts) (w ∷ ws) same = ap suc (length-edges_of ts ws (omega arith))

pub get_or-edges_of : (successors weights : List ℕ) (p : ℕ) (d e : ℕ) → length weights ≡ length successors
    → p < length successors
    → record { to = get_or successors p d; weight = get_or weights p e }
    ≡ get_or (edges_of successors weights) p no_edge
get_or-edges_of [] weights p d e same inside = absurd (omega arith)
get_or-edges_of (t ∷ ts) [] p d e same inside = absurd (omega arith)
get_or-edges_of (t ∷ ts) (w ∷ ws) zero d e same inside = refl
get_or-edges_of (t ∷ ts) (w ∷ ws) (suc p) d e same inside = get_or-edges_of ts ws p d e (omega arith) (omega arith)

-- the successors and weights of a choice, as they lie in the game
module _ {m : Distribution} (h : IsDistribution m) {successors weights : List ℕ}
    (are_to : successors ≡ map (λ e. e.to) m.edges) (are_weights : weights ≡ map (λ e. e.weight) m.edges) where
  pub as_many : length weights ≡ length successors
  as_many = ap length are_weights ∙ length-map m.edges (λ (e : Edge). e.weight)
      ∙ sym (ap length are_to ∙ length-map m.edges (λ (e : Edge). e.to))

  pub are-edges : edges_of successors weights ≡ m.edges
  are-edges = ap (λ ts. edges_of ts weights) are_to
      ∙ ap (λ ws. edges_of (map (λ (e : Edge). e.to) m.edges) ws) are_weights ∙ edges_of-lists m.edges

  pub are-total : weight_of_all successors weights ≡ m.total
  are-total = ap (λ es. sum_by (λ (e : Edge). e.weight) es) are-edges ∙ h.sums

  -- what holds of each successor
  pub all-to : (P : ℕ → Type 0) → All (λ e. P e.to) m.edges → All P successors
  all-to P all = subst (All P) (sym are_to) (All-map P (λ (e : Edge). e.to) m.edges all)

  pub sum-of-edges : {old new : ℕ → ℕ} {sum : ℕ} → IsSumBetween (edges_of successors weights) old new sum
      → IsSumBetween m.edges old new sum
  sum-of-edges {old} {new} {sum} is = subst (λ (es : List Edge). IsSumBetween es old new sum) are-edges is
