-- The bounds of a value, in units, give a verdict on a threshold.
use Rattle.std.specs.Prelude.{ℕ, ◌*◌, Bool, true, false, not, nat_lt, nat_le, if◌then◌else◌}
use Rattle.game_model.specs.Limits.{unit}
use Rattle.fractions.specs.Fraction.{Fraction}
use Rattle.formula_reader.specs.declared.formula.Bound.{Bound}
use Rattle.formula_reader.specs.declared.formula.Bound.TheVariants.{AtLeast, Above, AtMost, Below, AskMax, AskMin}
use Rattle.verdicts.specs.declared.verdict.Verdict.{Verdict}
use Rattle.verdicts.specs.declared.verdict.Verdict.TheVariants.{Yes, No, Undecided, Bracket}

-- This many units are at least p.
abbrev pub reaches : Fraction → ℕ → Bool
reaches p units = nat_le (p.num * unit) (units * p.den)

-- This many units are above p.
abbrev pub exceeds : Fraction → ℕ → Bool
exceeds p units = nat_lt (p.num * unit) (units * p.den)

-- The first of two tests that holds gives the verdict.
abbrev pub verdict_by : Bool → Bool → Verdict
verdict_by holds fails = if holds then Yes else (if fails then No else Undecided)

-- A lower and an upper bound give this verdict for a bound on the value between them.
abbrev pub verdict_of : Bound → ℕ → ℕ → Verdict
verdict_of (AtLeast p) lower upper = verdict_by (reaches p lower) (not (reaches p upper))
verdict_of (Above p) lower upper = verdict_by (exceeds p lower) (not (exceeds p upper))
verdict_of (AtMost p) lower upper = verdict_by (not (exceeds p upper)) (exceeds p lower)
verdict_of (Below p) lower upper = verdict_by (not (reaches p upper)) (reaches p lower)
verdict_of AskMax lower upper = Bracket
verdict_of AskMin lower upper = Bracket

-- The verdict is that the bound holds.
abbrev pub is_yes : Verdict → Bool
is_yes Yes = true
is_yes No = false
is_yes Undecided = false
is_yes Bracket = false

-- The verdict is that the bound fails.
abbrev pub is_no : Verdict → Bool
is_no Yes = false
is_no No = true
is_no Undecided = false
is_no Bracket = false

-- The verdict is that the bounds leave the threshold open.
abbrev pub is_undecided : Verdict → Bool
is_undecided Yes = false
is_undecided No = false
is_undecided Undecided = true
is_undecided Bracket = false

-- The verdict is that the bound holds, or that it fails.
abbrev pub is_settling : Verdict → Bool
is_settling Yes = true
is_settling No = true
is_settling Undecided = false
is_settling Bracket = false

-- The bound asks for a value, and sets no threshold.
abbrev pub is_asking : Bound → Bool
is_asking AskMax = true
is_asking AskMin = true
is_asking (AtLeast p) = false
is_asking (Above p) = false
is_asking (AtMost p) = false
is_asking (Below p) = false
