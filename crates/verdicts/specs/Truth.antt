-- This module defines when a bound on the value of a state is true, and when it is false.
use Rattle.std.specs.Prelude.{ℕ}
use Rattle.game_model.specs.Query.{Query}
use Rattle.game_model.specs.Bounds.{Reaches, Exceeds}
use Rattle.formula_reader.specs.declared.formula.Bound.{Bound}
use Rattle.formula_reader.specs.declared.formula.Bound.TheVariants.{AtLeast, Above, AtMost, Below, AskMax, AskMin}
use Rattle.verdicts.specs.declared.verdict.Verdict.{Verdict}
use Rattle.verdicts.specs.declared.verdict.Verdict.TheVariants.{Yes, No, Undecided, Bracket}

-- The bound is true of the value at a state. A bound that asks for a value is true of every value.
abbrev pub IsTrueOf : Query → Bound → ℕ → Type 0
IsTrueOf q (AtLeast p) s = Reaches q p.num p.den s
IsTrueOf q (Above p) s = Exceeds q p.num p.den s
IsTrueOf q (AtMost p) s = ¬ Exceeds q p.num p.den s
IsTrueOf q (Below p) s = ¬ Reaches q p.num p.den s
IsTrueOf q AskMax s = Unit {0}
IsTrueOf q AskMin s = Unit {0}

-- The bound is false of the value at a state. For `>= p` the k-step values do not come as near to p as one likes. For
-- `> p` none is above p. For `<= p` some k-step value is above p. For `< p` they come as near to p as one likes. A
-- bound that asks for a value is false of none.
abbrev pub IsFalseOf : Query → Bound → ℕ → Type 0
IsFalseOf q (AtLeast p) s = ¬ Reaches q p.num p.den s
IsFalseOf q (Above p) s = ¬ Exceeds q p.num p.den s
IsFalseOf q (AtMost p) s = Exceeds q p.num p.den s
IsFalseOf q (Below p) s = Reaches q p.num p.den s
IsFalseOf q AskMax s = ⊥
IsFalseOf q AskMin s = ⊥

-- If the verdict is yes, the bound is true of the value at a state; if it is no, the bound is false. Other verdicts say
-- nothing.
abbrev pub VerdictIsRight : Query → Bound → ℕ → Verdict → Type 0
VerdictIsRight q bound s Yes = IsTrueOf q bound s
VerdictIsRight q bound s No = IsFalseOf q bound s
VerdictIsRight q bound s Undecided = Unit {0}
VerdictIsRight q bound s Bracket = Unit {0}
