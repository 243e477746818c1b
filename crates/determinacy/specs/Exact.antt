-- This module defines the exact values of a question.
use Rattle.std.specs.Prelude.{ℕ, ◌<◌, List, Option}
use Rattle.game_model.specs.Query.{Query}
use Rattle.strategies.specs.Strategies.{HoldsOver, ReachesOver}

-- These are the values of a question, if `top` units are probability 1. One plan of the maximiser reaches them, less
-- any 1/m, against every strategy, and one plan of the minimiser holds every strategy to them.
pub record HasValues (q : Query) : Type 0 where
  pub top : ℕ
  pub positive : 0 < top
  pub value : ℕ → ℕ
  pub plan : List (Option ℕ)
  pub reached : ReachesOver top q plan value
  pub replies : List (Option ℕ)
  pub held : HoldsOver top q replies value
