-- Formulas of rewards are plain trees here, without their places in memory.
use Rattle.std.specs.Prelude.{ℕ, List, Option, option_map}
use Rattle.formula_reader.specs.Formula.{State, Tree, names_of, state_of, tree_of}
use Rattle.reward_formula.specs.declared.formula.RewardBound.{RewardBound}
use Rattle.reward_formula.specs.declared.formula.RewardFormula.{RewardFormula}
use Rattle.reward_formula.specs.declared.formula.AnyFormula.{AnyFormula}
use Rattle.reward_formula.specs.declared.formula.AnyFormula.TheVariants.{OfReward as OfReward'}
use Rattle.reward_formula.specs.declared.formula.AnyFormula.TheVariants.{OfProbability as OfProbability'}

-- A formula of rewards has a bound on what is expected to be collected before the goal holds. It has a coalition of
-- players and a name of the rewards if these are given.
pub record RewardTree : Type 0 where
  pub coalition : Option (List (List ℕ))
  pub name : Option (List ℕ)
  pub bound : RewardBound
  pub goal : State

-- A formula is about a probability or about rewards.
pub data AnyTree : Type 0 where
  OfProbability : (f : Tree) → AnyTree
  OfReward : (f : RewardTree) → AnyTree

-- This is the tree of a formula of rewards in memory.
abbrev pub reward_tree_of : RewardFormula → RewardTree
reward_tree_of f = record {
  coalition = option_map names_of f.coalition;
  name = f.name;
  bound = f.bound;
  goal = state_of f.goal;
}

-- This is the tree of a formula in memory.
abbrev pub any_of : AnyFormula → AnyTree
any_of (OfProbability' f) = OfProbability (tree_of f)
any_of (OfReward' f) = OfReward (reward_tree_of f)
