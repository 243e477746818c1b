-- These definitions say what a run writes: the lines of a report, and the certificate with its formula.
use Rattle.std.specs.Prelude.{◌≤◌, List, ℕ, [], ◌++◌, length, Option, Some, None, All, codes}
use Rattle.game_model.specs.Limits.{most_states}
use Rattle.formula_reader.specs.Formula.{Tree}
use Rattle.rpatl_syntax.specs.Spellable.{IsSpellable}
use Rattle.rpatl_syntax.specs.Spelling.{spelling}
use Rattle.plan_text.specs.Entries.{Entry, IsInRange}
use Rattle.plan_text.specs.Written.{certificate_text}
use Rattle.verdicts.specs.Report.{IsLine, report}
use Rattle.verdicts.specs.declared.report.ReportLine.{ReportLine}

-- A certificate has a formula and entries.
pub record Certificate : Type 0 where
  pub formula : Tree
  pub entries : List Entry

-- A run writes the lines of a report as its answer, and the certificate if it is asked for.
pub record Output : Type 0 where
  pub lines : List ReportLine
  pub certificate : Option Certificate

-- The certificate follows the line `formula F`.
abbrev pub certificate_part : Option Certificate → List ℕ
certificate_part None = []
certificate_part (Some certificate) = (codes "formula " ++ (spelling certificate.formula ++ codes "\n"))
    ++ certificate_text certificate.entries

-- These are the bytes that are written.
abbrev pub output_text : Output → List ℕ
output_text output = report output.lines ++ certificate_part output.certificate

-- There are at most as many entries as a game may have states, and each is within the limits of a certificate.
abbrev pub AreEntriesInLimits : Option Certificate → Type 0
AreEntriesInLimits None = Unit {0}
AreEntriesInLimits (Some certificate) = (length certificate.entries ≤ most_states) × All IsInRange certificate.entries

-- The lines are such as their types hold, and the entries are within these limits.
pub record IsInLimits (output : Output) : Type 0 where
  pub lines : All IsLine output.lines
  pub entries : AreEntriesInLimits output.certificate

-- The grammar can spell the formula.
abbrev pub IsSpelledOut : Option Certificate → Type 0
IsSpelledOut None = Unit {0}
IsSpelledOut (Some certificate) = IsSpellable certificate.formula

-- The output is within its limits, and the grammar can spell the formula of its certificate. The law of outputs needs
-- this: the text then has one reading.
pub record IsWholeOutput (output : Output) : Type 0 where
  pub limits : IsInLimits output
  pub formula : IsSpelledOut output.certificate
