-- The sum over a choice of a game as a loop has it, and one more edge.
use Rattle.std.proofs.Common.{◌≡◌, ℕ, ◌+◌, ◌*◌, ◌^◌, ◌<◌, ◌≤◌, List, length, take, ap, ◌∙◌, arith}
use Rattle.game_model.specs.declared.game.Edge.{Edge}
use Rattle.game_model.specs.Game.{Distribution, IsDistribution, choices_of, choice_of, edge_of}
use Rattle.game_model.specs.Query.{Query, IsQuery, states}
use Rattle.game_model.specs.Limits.{unit}
use Rattle.fixed_bellman.specs.Sums.{IsSumBetween}
use Rattle.fixed_bellman.proofs.Sums.{IsSumBetween-still, sum-fits}

module _ (q : Query) (v : ℕ → ℕ) (s c p sum : ℕ) {count value : ℕ} {edge : Edge} {game : List (List Distribution)}
    (units : (t : ℕ) → v t ≤ unit) (same : game ≡ q.game) (is_count : count ≡ length (choice_of game s c).edges)
    (before : p < count) (is_edge : edge ≡ edge_of game s c p)
    (so_far : IsSumBetween (take p (choice_of q.game s c).edges) v v sum) (is_value : value ≡ v edge.to) where
  inside : p < length (choice_of q.game s c).edges
  inside = omega (arith, is_count, ap (λ (games : List (List Distribution)). length (choice_of games s c).edges) same)

  is : edge ≡ edge_of q.game s c p
  is = is_edge ∙ ap (λ (games : List (List Distribution)). edge_of games s c p) same

  within : value ≤ unit
  within = omega (arith, is_value, units edge.to)

  pub one-more : IsSumBetween (take (p + 1) (choice_of q.game s c).edges) v v (sum + edge.weight * value)
  one-more = IsSumBetween-still (choice_of q.game s c).edges p sum value edge inside is v so_far is_value within

  pub one-more-fits : IsQuery q → s < states q → c < length (choices_of q.game s) → sum + edge.weight * value < 2 ^ 128
  one-more-fits posed state choice =
      let fine : IsDistribution (choice_of q.game s c) = posed.game.distribution s c state choice in
      sum-fits (choice_of q.game s c).edges p sum value edge inside is so_far.whole within
      (omega (arith, fine.sums, fine.small))
