-- Strategies with memory and dice say which states are almost sure.
use Rattle.std.specs.Prelude.{◌≡◌, ℕ, ◌+◌, ◌*◌, ◌^◌, ◌<◌, ◌≤◌, Bool, true, false, List, [], slice_index_or, Option}
use Rattle.game_model.specs.declared.game.Side.TheVariants.{Max, Min}
use Rattle.game_model.specs.Query.{Query, states}
use Rattle.game_model.specs.Values.{denominator}
use Rattle.strategies.specs.Strategies.{Strategy, IsStrategyOf, reach, by_plan}

-- With one plan the maximiser reaches a goal from each marked state with a probability of at least 1 - 1/m for any m,
-- whatever the minimiser does. With one plan the minimiser holds this probability, from each other state, to 1 less one
-- over a power of the denominator, whatever the maximiser does.
pub record HaveStrategies (q : Query) (marks : List Bool) : Type 0 where
  pub plan : List (Option ℕ)
  pub reached : (m : ℕ) → 1 ≤ m → (k : ℕ) × ((faces s : ℕ) (opponent : Strategy) → IsStrategyOf q Min opponent
      → s < states q → slice_index_or marks s false ≡ true →
      m * (faces * denominator q.game) ^ k
      ≤ m * reach q faces (by_plan q plan) opponent k [] s + (faces * denominator q.game) ^ k)
  pub replies : List (Option ℕ)
  pub held : (faces k s : ℕ) (opponent : Strategy) → IsStrategyOf q Max opponent → s < states q
      → slice_index_or marks s false ≡ false →
      (reach q faces opponent (by_plan q replies) k [] s) * denominator q.game ^ states q +
      (faces * denominator q.game) ^ k ≤ denominator q.game ^ states q * (faces * denominator q.game) ^ k
