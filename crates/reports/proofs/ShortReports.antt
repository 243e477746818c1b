-- A report is no longer than a text may be.
use Rattle.std.proofs.Common.{◌≡◌, ◌<◌, ◌≤◌, ◌+◌, ◌*◌, ◌^◌, ℕ, Bool, true, false, List, ◌++◌, length, map, ap, arith}
use Rattle.std.specs.Prelude.{All, codes, decimal}
use Rattle.std.proofs.lemmas.List.{length-append, length-map}
use Rattle.text_lines.specs.Limits.{most_bytes}
use Rattle.game_model.specs.Limits.{most_states}
use Rattle.game_model.specs.Query.{Query}
use Rattle.formula_reader.specs.Formula.{Tree}
use Rattle.rpatl_syntax.specs.Spelling.{spelling}
use Rattle.plan_text.specs.Entries.{entries_of}
use Rattle.plan_text.specs.Written.{certificate_text}
use Rattle.verdicts.specs.Report.{report}
use Rattle.plan_text.specs.declared.plan.Plan.{Plan}
use Rattle.verdicts.specs.declared.report.ReportLine.{ReportLine}
use Rattle.verdicts.specs.declared.report.How.TheVariants.{Rounds, Steps, Solved}
use Rattle.verdicts.specs.declared.report.How.{How}
use Rattle.verdicts.specs.Report.{IsLine}
use Rattle.formula_sets.specs.Posing.{Model}
use Rattle.formula_truth.specs.declared.way.Way.{Way}
use Rattle.command_words.specs.Words.{Check}
use Rattle.output.specs.declared.status.Status.{Status}
use Rattle.output.specs.Outputs.{certificate_part, output_text, AreEntriesInLimits, IsInLimits}
use Rattle.output.specs.Printed.{line_of, certificate_of, output_of}
use Rattle.rpatl_syntax.specs.Dual.{answered}
use Rattle.reports.specs.Reports.{IsBracketReport}
use Rattle.reports.specs.Solved.{IsSolved}
use Rattle.reports.specs.Sweeps.{IsSweepReport}
use Rattle.reports.specs.Nested.{IsNestedReport, inside_text}
use Rattle.reports.proofs.Limits.{plan_line}
use Rattle.output.proofs.ShortLines.{entry_bytes, line_bytes, joined-short, decimal-short, report-short}
use Rattle.output.proofs.ShortLines.{certificate-short}
use Rattle.output.proofs.ShortSpellings.{most_spelled}

-- the most bytes behind the report: the line of the formula, and the certificate
abbrev most_behind : ℕ
most_behind = (9 + most_spelled) + (25 + entry_bytes * most_states)

part-short : (asked : Bool) (f : Tree) (plan : Plan) → length (spelling (answered f)) ≤ most_spelled
    → AreEntriesInLimits (certificate_of asked f plan)
    → length (certificate_part (certificate_of asked f plan)) ≤ most_behind
part-short false f plan small are = omega arith
part-short true f plan small are =
    let entries = entries_of plan in
    let spelled = spelling (answered f) in
    joined-short (9 + most_spelled) (25 + entry_bytes * most_states) (codes "formula " ++ (spelled ++ codes "\n"))
    (certificate_text entries)
    (joined-short 8 (most_spelled + 1) (codes "formula ") (spelled ++ codes "\n") (omega arith)
    (joined-short most_spelled 1 spelled (codes "\n") small (omega arith)))
    (certificate-short entries are.0 are.1)

-- the lines of the initial states
lines-short : (initial : List ℕ) (line : ℕ → ReportLine) → length initial ≤ most_states → All IsLine (map line initial)
    → length (report (map line initial)) ≤ line_bytes * most_states
lines-short initial line few are = omega (arith, few, length-map initial line, report-short (map line initial) are)

-- an output of a plan
output-short : (initial : List ℕ) (f : Tree) (how : How) (asked : Bool) (plan : Plan) (text : List ℕ)
    → length initial ≤ most_states → length (spelling (answered f)) ≤ most_spelled
    → text ≡ output_text (output_of asked f how initial plan) → IsInLimits (output_of asked f how initial plan)
    → length text ≤ most_bytes
output-short initial f how asked plan text few small written limits =
    let lines = (output_of asked f how initial plan).lines in
    let part = certificate_part (certificate_of asked f plan) in
    omega (
      arith,
      ap (λ (t : List ℕ). length t) written,
      length-append (report lines) part,
      lines-short initial (plan_line f how plan) few limits.lines,
      part-short asked f plan small limits.entries,
    )

pub report-text-short : (q : Query) (initial : List ℕ) (f : Tree) (check : Check) (text : List ℕ) (status : Status)
    → length initial ≤ most_states → length (spelling (answered f)) ≤ most_spelled
    → IsBracketReport q initial f check text status → length text ≤ most_bytes
report-text-short q initial f check text status few small r =
    output-short initial f (Rounds r.found.rounds) check.plan r.plan text few small r.written r.limits

pub solved-text-short : (q : Query) (initial : List ℕ) (f : Tree) (asked : Bool) (text : List ℕ) (status : Status)
    → length initial ≤ most_states → length (spelling (answered f)) ≤ most_spelled
    → IsSolved q initial f asked text status → length text ≤ most_bytes
solved-text-short q initial f asked text status few small r =
    output-short initial f Solved asked r.plan text few small r.written r.limits

pub sweep-text-short : (q : Query) (opening : ℕ → ℕ) (steps : ℕ) (numerators : ℕ → ℕ)
    (initial : List ℕ) (f : Tree) (text : List ℕ) (status : Status) → length initial ≤ most_states
    → IsSweepReport q opening steps numerators initial f text status → length text ≤ most_bytes
sweep-text-short q opening steps numerators initial f text status few r =
    omega (
      arith,
      ap (λ (t : List ℕ). length t) r.written,
      lines-short initial (line_of false f.bound (Steps steps) r.lower r.upper) few r.lines,
    )

-- the line about the formulas inside
inside-short : (inner undecided : ℕ) → inner < 2 ^ 32 → undecided < 2 ^ 32 → length (inside_text inner undecided) ≤ 38
inside-short inner undecided one other =
    joined-short 16 22 (codes "inner " ++ decimal inner) _
    (joined-short 6 10 (codes "inner ") (decimal inner) (omega arith) (decimal-short inner (omega (arith, one))))
    (joined-short 21 1 (codes " undecided " ++ decimal undecided) (codes "\n") (joined-short 11 10 (codes " undecided ")
    (decimal undecided) (omega arith) (decimal-short undecided (omega (arith, other)))) (omega arith))

pub nested-text-short : (m : Model) (initial : List ℕ) (f : Tree) (way : Way) (text : List ℕ) (status : Status)
    → length initial ≤ most_states → IsNestedReport m initial f way text status → length text ≤ most_bytes
nested-text-short m initial f way text status few r =
    let lines = map (line_of false f.bound r.how r.band.lower r.band.upper) initial in
    omega (
      arith,
      ap (λ (t : List ℕ). length t) r.written,
      length-append (inside_text r.inner r.undecided) (report lines),
      inside-short r.inner r.undecided r.counts.0 r.counts.1,
      lines-short initial (line_of false f.bound r.how r.band.lower r.band.upper) few r.lines,
    )
