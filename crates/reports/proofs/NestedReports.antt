-- What is reported of a formula with others inside.
use Rattle.std.proofs.Common.{◌≡◌, ◌<◌, ◌≤◌, ◌^◌, ◌++◌, ℕ, false, List, length, map, All, Result, Ok, Err, arith, subst}
use Rattle.std.specs.Prelude.{IfOk}
use Rattle.std.proofs.lemmas.List.Elements.{All-map, All-weaker}
use Rattle.game_outside.specs.declared.OutOfMemory.{OutOfMemory}
use Rattle.game_model.specs.Game.{IsGame}
use Rattle.game_model.specs.Limits.{unit}
use Rattle.formula_reader.specs.Formula.{Tree}
use Rattle.formula_sets.specs.Posing.{Model}
use Rattle.formula_truth.specs.declared.way.Way.{Way}
use Rattle.nested_truth.specs.declared.answer.Nested.{Nested}
use Rattle.nested_truth.specs.Nested.{IsNested}
use Rattle.nested_truth.specs.Seen.{band_of}
use Rattle.verdicts.specs.Report.{HasCount, IsLine, report}
use Rattle.verdicts.specs.declared.report.ReportLine.{ReportLine}
use Rattle.reports.specs.Nested.{IsNestedReport, inside_text}
use Rattle.output.specs.Printed.{line_of, status_of}
use Rattle.output.specs.declared.answer.Answer.{Answer}
use Rattle.output.specs.declared.status.Status.{Status}
use Rattle.reports.proofs.Limits.{at-most}

-- bounds that were found, with what their types and their game keep
pub record IsPrinted (m : Model) (found : Nested) : Type 0 where
  pub game : IsGame m.game
  pub count : HasCount found.how
  pub inner : found.inner < 2 ^ 32
  pub undecided : found.undecided < 2 ^ 32
  pub inside : All (λ s. s < length m.game) found.initial.items
  pub lowers : length found.lower.items ≡ length m.game
  pub uppers : length found.upper.items ≡ length m.game
  pub lower_units : All (λ v. v ≤ unit) found.lower.items
  pub upper_units : All (λ v. v ≤ unit) found.upper.items

module _ (m : Model) (f : Tree) (way : Way) (found : Nested) (h : IsPrinted m found) where
  abbrev line : ℕ → ReportLine
  line = line_of false f.bound found.how found.lower.items found.upper.items

  line-in_range : (s : ℕ) → s < length m.game → IsLine (line s)
  line-in_range s within = record {
    state = omega (arith, within, h.game.few);
    count = h.count;
    values = (
      at-most (λ v. v ≤ unit) found.lower.items s h.lower_units (omega (arith, within, h.lowers)),
      at-most (λ v. v ≤ unit) found.upper.items s h.upper_units (omega (arith, within, h.uppers)),
    );
  }

  reported : (initial : List ℕ) (text : List ℕ) (status : Status)
      → IsNested m f found.initial.items way (band_of found) found.how found.inner found.undecided
      → found.initial.items ≡ initial
      → text ≡ inside_text found.inner found.undecided ++ report (map line found.initial.items)
      → status ≡ status_of (map line found.initial.items) → IsNestedReport m initial f way text status
  reported initial text status nested same written ended =
      subst (λ (xs : List ℕ). IsNestedReport m xs f way text status) same (record {
        inside = h.inside;
        band = band_of found;
        how = found.how;
        inner = found.inner;
        undecided = found.undecided;
        nested = nested;
        written = written;
        lines = All-map IsLine line found.initial.items
            (All-weaker (λ s. s < length m.game) (λ s. IsLine (line s)) line-in_range found.initial.items h.inside);
        counts = (h.inner, h.undecided);
        ends = ended;
      })

  -- the same of an answer
  pub answered-nested : (initial : List ℕ) (result : Result Answer OutOfMemory)
      → IsNested m f found.initial.items way (band_of found) found.how found.inner found.undecided
      → found.initial.items ≡ initial → IfOk result
      (λ answer. answer.text.items ≡ inside_text found.inner found.undecided ++ report (map line found.initial.items))
      → IfOk result (λ answer. answer.status ≡ status_of (map line found.initial.items))
      → IfOk result (λ answer. IsNestedReport m initial f way answer.text.items answer.status)
  answered-nested initial (Ok answer) nested same written ended =
      reported initial answer.text.items answer.status nested same written ended
  answered-nested initial (Err error) nested same written ended = tt
