-- A comparison with a threshold is a bound.
use Rattle.fractions.specs.Fraction.{Fraction}
use Rattle.formula_reader.specs.declared.formula.Comparison.{Comparison}
use Rattle.formula_reader.specs.declared.formula.Comparison.TheVariants.{AtLeast as at_least, Above as above}
use Rattle.formula_reader.specs.declared.formula.Comparison.TheVariants.{AtMost as at_most, Below as below}
use Rattle.formula_reader.specs.declared.formula.Bound.{Bound}
use Rattle.formula_reader.specs.declared.formula.Bound.TheVariants.{AtLeast, Above, AtMost, Below}

-- This is the bound that makes this comparison with the threshold.
abbrev pub bound_with : Comparison → Fraction → Bound
bound_with at_least p = AtLeast p
bound_with above p = Above p
bound_with at_most p = AtMost p
bound_with below p = Below p
