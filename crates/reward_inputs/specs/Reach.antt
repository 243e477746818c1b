-- A formula of rewards poses the question of a formula of probabilities: the same coalition wants to come to the goal,
-- or not to come there, in the same sense.
use Rattle.fractions.specs.Fraction.{Fraction}
use Rattle.formula_reader.specs.declared.formula.Bound.{Bound}
use Rattle.formula_reader.specs.declared.formula.Bound.TheVariants as share
use Rattle.formula_reader.specs.declared.formula.PathKind.TheVariants.{Until}
use Rattle.formula_reader.specs.Formula.{Tree, True}
use Rattle.reward_formula.specs.declared.formula.RewardBound.{RewardBound}
use Rattle.reward_formula.specs.declared.formula.RewardBound.TheVariants.{AtLeast, Above, AtMost, Below, AskMax, AskMin}
use Rattle.reward_formula.specs.Formula.{RewardTree}

-- The threshold plays no part in the question. This one takes its place.
abbrev pub no_threshold : Fraction
no_threshold = record { num = 0; den = 1 }

-- This is a bound on a probability in the same sense.
abbrev pub sense_of : RewardBound → Bound
sense_of (AtLeast x) = share.AtLeast no_threshold
sense_of (Above x) = share.Above no_threshold
sense_of (AtMost x) = share.AtMost no_threshold
sense_of (Below x) = share.Below no_threshold
sense_of AskMax = share.AskMax
sense_of AskMin = share.AskMin

-- This formula of probabilities has the question of a formula of rewards. Its path is `F goal`.
abbrev pub reach_tree : RewardTree → Tree
reach_tree f = record {
  coalition = f.coalition;
  bound = sense_of f.bound;
  kind = Until;
  left = True;
  right = f.goal;
}
