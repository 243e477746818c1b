-- The total of a choice.
use Rattle.std.proofs.Common.{◌≡◌, ◌<◌, ◌≤◌, arith, get_or, sum_by}
use Rattle.std.proofs.lemmas.List.Sums.{get_or-le-sum_by}
use Rattle.game_model.specs.declared.game.Edge.{Edge}
use Rattle.game_model.specs.Game.{Distribution, IsDistribution, no_edge}

-- a choice has a positive total
pub total-pos : (distribution : Distribution) → IsDistribution distribution → 0 < distribution.total
total-pos distribution h =
    let one : 1 ≤ (get_or distribution.edges 0 no_edge).weight = h.weights 0 no_edge h.some in
    let part : (get_or distribution.edges 0 no_edge).weight ≤ sum_by (λ e. e.weight) distribution.edges =
    get_or-le-sum_by (λ (e : Edge). e.weight) distribution.edges 0 no_edge h.some in
    let same : sum_by (λ e. e.weight) distribution.edges ≡ distribution.total = h.sums in
    omega arith
