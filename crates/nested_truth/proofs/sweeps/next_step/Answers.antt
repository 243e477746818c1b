use Rattle.std.proofs.Common.{◌∙◌, List, ℕ, false, get_or, length, ap, arith}
use Rattle.std.specs.Prelude.{slice_index}
use Rattle.std.proofs.lemmas.Result.{IfOk-weaker}
use Rattle.formula_truth.specs.InnerRuns.{units_at}
use Rattle.bounded_rounds.proofs.Parts.{IsSweep-same}
use Rattle.nested_truth.proofs.Tables.{filled-length, filled-at, filled-units, units_at-units}
use Rattle.nested_truth.proofs.sweeps.next_step.Goals as goal

pub bounded-requires-clause-opening : goal.bounded-requires-clause-opening
bounded-requires-clause-opening g c κs within =
    ap (λ (xs : List ℕ). length xs) c.deref.ensures.value
    ∙ filled-length (units_at (λ s. get_or c.args.marks.now s false))
    (length c.args.marks.now) c.in_ok-table.table.items c.in_ok-table.ensures ∙ c.requires.marks

pub bounded-requires-clause-units : goal.bounded-requires-clause-units
bounded-requires-clause-units g c κs within =
    let marked = λ (s : ℕ). get_or c.args.marks.now s false in
    rw (c.deref.ensures.value) (filled-units (units_at marked)
    (length c.args.marks.now) c.in_ok-table.table.items c.in_ok-table.ensures (units_at-units marked))

pub returns-clause-sweep : goal.returns-clause-sweep
returns-clause-sweep g c =
    let marked = λ (s : ℕ). get_or c.args.marks.now s false in
    let q = c.args.question.now in
    IfOk-weaker c.bounded.result _ _ (λ sweep swept. IsSweep-same q (slice_index c.deref.result.now)
    (units_at marked) 1 sweep.lower.items sweep.upper.items c.invariant.ensures
    (λ s inside. ap (λ (xs : List ℕ). slice_index xs s) c.deref.ensures.value
    ∙ filled-at (units_at marked) (length c.args.marks.now) c.in_ok-table.table.items c.in_ok-table.ensures 0 s
    (omega (arith, inside, c.requires.marks))) swept) c.bounded.ensures.sweep
