-- This module defines what both sides can do about the next state.
use Rattle.std.specs.Prelude.{ℕ, ◌*◌, ◌<◌, ◌≤◌, Bool, false, List, [], ◌∷◌, sum_by, if◌then◌else◌}
use Rattle.game_model.specs.declared.game.Side.TheVariants.{Max, Min}
use Rattle.game_model.specs.Query.{Query, states}
use Rattle.strategies.specs.Strategies.{Strategy, IsStrategyOf}
use Rattle.strategies.specs.Plays.{plays}

-- The second state of a play is one of these.
abbrev pub comes_next : (ℕ → Bool) → List ℕ → Bool
comes_next holds [] = false
comes_next holds (s ∷ []) = false
comes_next holds (s ∷ t ∷ later) = holds t

-- Plays of one turn come to one of these states next in this many ways.
abbrev pub ways_next : Query → (ℕ → Bool) → ℕ → Strategy → Strategy → ℕ → ℕ
ways_next q holds faces greatest least s =
    sum_by (λ play. if comes_next holds play.through then play.ways else 0) (plays q faces greatest least 1 [] s)

-- The probability that one of these states comes next is `parts` over the denominator. The maximiser can be sure of it,
-- and the minimiser can hold the maximiser to it, whatever the other does.
pub record AreBestNext (q : Query) (holds : ℕ → Bool) (parts : ℕ → ℕ) : Type 0 where
  pub greatest : Strategy
  pub is_greatest : IsStrategyOf q Max greatest
  pub assured : (faces s : ℕ) (opponent : Strategy) → IsStrategyOf q Min opponent → s < states q
      → faces * parts s ≤ ways_next q holds faces greatest opponent s
  pub least : Strategy
  pub is_least : IsStrategyOf q Min least
  pub held : (faces s : ℕ) (opponent : Strategy) → IsStrategyOf q Max opponent → s < states q
      → ways_next q holds faces opponent least s ≤ faces * parts s
