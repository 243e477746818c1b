-- These definitions say what is printed of two tables: a line for each initial state with what its bounds say, and the
-- certificate.
use Rattle.std.specs.Prelude.{ℕ, ◌-◌, Bool, true, false, List, map, slice_index, Option, Some, None, if◌then◌else◌}
use Rattle.std.specs.List.{list_any}
use Rattle.game_model.specs.Limits.{unit}
use Rattle.formula_reader.specs.declared.formula.Bound.{Bound}
use Rattle.formula_reader.specs.declared.formula.PathKind.{PathKind}
use Rattle.formula_reader.specs.declared.formula.PathKind.TheVariants.{Until, Within, Next, Always}
use Rattle.formula_reader.specs.Formula.{Tree}
use Rattle.plan_text.specs.declared.plan.Plan.{Plan}
use Rattle.plan_text.specs.Entries.{entries_of}
use Rattle.verdicts.specs.Verdict.{verdict_of, is_no, is_undecided}
use Rattle.verdicts.specs.declared.report.ReportLine.{ReportLine}
use Rattle.verdicts.specs.declared.report.How.{How}
use Rattle.rpatl_syntax.specs.Dual.{answered}
use Rattle.output.specs.Outputs.{Certificate, Output}
use Rattle.output.specs.declared.status.Status.{Status}
use Rattle.output.specs.declared.status.Status.TheVariants.{Fine, SomeFalse, SomeUndecided}

-- The value of `G` is 1 less that of its dual, so the bounds of the dual are mirrored.
abbrev pub is_mirrored : PathKind → Bool
is_mirrored Until = false
is_mirrored (Within steps) = false
is_mirrored Next = false
is_mirrored Always = true

-- The line of a state comes from its entries in a lower and an upper table: its bounds, where they come from, and what
-- they say of the bound of the formula. If it is mirrored, its bounds are 1 less those of the tables, exchanged.
abbrev pub line_of : Bool → Bound → How → List ℕ → List ℕ → ℕ → ReportLine
line_of mirrored bound how lower upper s =
    let low = (if mirrored then unit - slice_index upper s else slice_index lower s) in
    let high = (if mirrored then unit - slice_index lower s else slice_index upper s) in
    record { state = s; lower = low; upper = high; how = how; verdict = verdict_of bound low high }

-- A certificate is that of the answered question.
abbrev pub certificate_of : Bool → Tree → Plan → Option Certificate
certificate_of asked f plan = if asked then Some (record { formula = answered f; entries = entries_of plan }) else None

-- The report of a formula has one line for each initial state, and the certificate if it is asked for.
abbrev pub output_of : Bool → Tree → How → List ℕ → Plan → Output
output_of asked f how initial plan = record {
  lines = map (line_of (is_mirrored f.kind) f.bound how plan.lower.items plan.upper.items) initial;
  certificate = certificate_of asked f plan;
}

-- The status is `SomeFalse` if some line is False, else `SomeUndecided` if some line is Undecided, and else `Fine`.
abbrev pub status_of : List ReportLine → Status
status_of lines = if list_any (λ line. is_no line.verdict) lines then SomeFalse else
    (if list_any (λ line. is_undecided line.verdict) lines then SomeUndecided else Fine)
