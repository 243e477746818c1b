-- This module says which form the formulas have that texts spell.
use Rattle.std.specs.Prelude.{Bool, true, false}
use Rattle.formula_reader.specs.declared.formula.PathKind.{PathKind}
use Rattle.formula_reader.specs.declared.formula.PathKind.TheVariants.{Always}
use Rattle.formula_reader.specs.Formula.{State, True, is_flat}
use Rattle.reward_formula.specs.Formula.{AnyTree, OfProbability, OfReward}

-- The state formula is `true`.
abbrev pub is_true : State → Bool
is_true True = true
is_true x = false

-- `G` has `true` on its left side.
abbrev pub has_left : PathKind → State → Bool
has_left Always left = is_true left
has_left kind left = true

-- `G` has `true` on its left side, and no formula is inside the goal of a formula of rewards.
abbrev pub has_form : AnyTree → Bool
has_form (OfProbability f) = has_left f.kind f.left
has_form (OfReward f) = is_flat f.goal
