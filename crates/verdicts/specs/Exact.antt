-- This module defines when a verdict on a probability that is a fraction is right.
use Rattle.std.specs.Prelude.{ℕ}
use Rattle.formula_reader.specs.declared.formula.Bound.{Bound}
use Rattle.rpatl_syntax.specs.Dual.{IsMetBy}
use Rattle.verdicts.specs.declared.verdict.Verdict.{Verdict}
use Rattle.verdicts.specs.declared.verdict.Verdict.TheVariants.{Yes, No, Undecided, Bracket}

-- If the verdict is yes, n/d meets the bound; if it is no, n/d does not. Other verdicts say nothing.
abbrev pub IsRight : Bound → ℕ → ℕ → Verdict → Type 0
IsRight bound n d Yes = IsMetBy bound n d
IsRight bound n d No = ¬ IsMetBy bound n d
IsRight bound n d Undecided = Unit {0}
IsRight bound n d Bracket = Unit {0}
