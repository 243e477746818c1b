-- The values of the next state are what both sides can be sure of.
use Rattle.std.proofs.Common.{◌≡◌, ℕ, ◌+◌, ◌*◌, ◌/◌, Bool, true, false, List, [], ◌∷◌, sum_by, arith, ap, subst}
use Rattle.std.specs.Bool.{if◌then◌else◌}
use Rattle.std.proofs.lemmas.List.Sums.{sum_by-cons}
use mathlib.Core.Path.{fun_ext}
use Rattle.game_model.specs.declared.game.Edge.{Edge}
use Rattle.game_model.specs.Game.{Distribution, choices_of}
use Rattle.game_model.specs.Query.{Query, IsQuery, side_at}
use Rattle.game_model.specs.Values.{denominator, optimum, weighted_sum}
use Rattle.strategies.specs.Next.{AreBestNext}
use Rattle.strategies.proofs.Next.{best-next}
use Rattle.bounded_rounds.specs.Exact.{next_numerator}

marked-sum : (holds : ℕ → Bool) (edges : List Edge) → weighted_sum (λ t. if holds t then 1 else 0) edges
    ≡ sum_by (λ (e : Edge). if holds e.to then e.weight else 0) edges
marked-sum holds [] = omega arith
marked-sum holds (e ∷ edges) =
    rw (
      sum_by-cons (λ (d : Edge). d.weight * (if holds d.to then 1 else 0)) e edges,
      sum_by-cons (λ (d : Edge). if holds d.to then d.weight else 0) e edges,
      marked-sum holds edges,
    )
    (elim (holds e.to)
    as (λ h. e.weight * (if h then 1 else 0) + sum_by (λ (d : Edge). if holds d.to then d.weight else 0) edges
    ≡ (if h then e.weight else 0) + sum_by (λ (d : Edge). if holds d.to then d.weight else 0) edges) [
      | true ↦ omega arith
      | false ↦ omega arith
    ])

pub next-best : (q : Query) (holds : ℕ → Bool) → IsQuery q → AreBestNext q holds (next_numerator q holds)
next-best q holds posed =
    let same : (λ (choice : Distribution).
    denominator q.game / choice.total * weighted_sum (λ t. if holds t then 1 else 0) choice.edges) ≡ (λ choice.
    denominator q.game / choice.total * sum_by (λ (e : Edge). if holds e.to then e.weight else 0) choice.edges) =
    fun_ext (λ choice. ap (λ x. denominator q.game / choice.total * x) (marked-sum holds choice.edges)) in
    subst (λ worth. AreBestNext q holds (λ s. optimum (side_at q s) worth (choices_of q.game s))) same
    (best-next q posed holds)
