-- This module defines the text of a report, line by line.
use Rattle.std.specs.Prelude.{ℕ, List, [], ◌∷◌, ◌++◌, ◌≤◌, ◌<◌, ◌^◌, codes, decimal}
use Rattle.game_model.specs.Limits.{unit}
use Rattle.plan_text.specs.Fixed.{fixed}
use Rattle.verdicts.specs.declared.verdict.Verdict.{Verdict}
use Rattle.verdicts.specs.declared.verdict.Verdict.TheVariants.{Yes, No, Undecided, Bracket}
use Rattle.verdicts.specs.declared.report.How.{How}
use Rattle.verdicts.specs.declared.report.How.TheVariants.{Rounds, Steps, Audited, Solved}
use Rattle.verdicts.specs.declared.report.ReportLine.{ReportLine}

-- Both bounds are values: they are at most the unit.
abbrev pub HasValues : ReportLine → Type 0
HasValues line = (line.lower ≤ unit) × (line.upper ≤ unit)

-- A number of rounds or steps, if one is named, has 32 bits.
abbrev pub HasCount : How → Type 0
HasCount (Rounds rounds) = rounds < 2 ^ 32
HasCount (Steps steps) = steps < 2 ^ 32
HasCount Audited = Unit {0}
HasCount Solved = Unit {0}

-- The numbers of a line fit their types, and its bounds are values.
pub record IsLine (line : ReportLine) : Type 0 where
  pub state : line.state < 2 ^ 32
  pub count : HasCount line.how
  pub values : HasValues line

-- A line ends with the word of its verdict.
abbrev pub verdict_text : Verdict → List ℕ
verdict_text Yes = codes "True"
verdict_text No = codes "False"
verdict_text Undecided = codes "Undecided"
verdict_text Bracket = codes "Bracket"

-- The bounds of a line come from this many rounds or steps, a certificate, or the tables of a solver.
abbrev pub how_text : How → List ℕ
how_text (Rounds rounds) = codes " rounds " ++ decimal rounds
how_text (Steps steps) = codes " steps " ++ decimal steps
how_text Audited = codes " audited"
how_text Solved = codes " solved"

-- The text is a label and a value.
abbrev pub labelled : List ℕ → ℕ → List ℕ
labelled label units = label ++ fixed units

-- The text is a verdict and the end of its line.
abbrev pub ending : Verdict → List ℕ
ending verdict = 32 ∷ (verdict_text verdict ++ codes "\n")

-- The line of a state looks like `state 0 lower 0.500000000000000 upper 1.000000000000000 rounds 40 Bracket`.
abbrev pub line_text : ReportLine → List ℕ
line_text line = (codes "state " ++ decimal line.state) ++ (labelled (codes " lower ") line.lower
    ++ (labelled (codes " upper ") line.upper ++ (how_text line.how ++ ending line.verdict)))

-- The report has the lines in their order.
abbrev pub report : List ReportLine → List ℕ
report [] = []
report (line ∷ lines) = line_text line ++ report lines
