use Rattle.std.proofs.Common.{◌≡◌, ◌≤◌, ◌∙◌, ℕ, List, ap, sym, subst}
use Rattle.std.specs.Prelude.{slice_index, All}
use Rattle.game_model.specs.Limits.{unit}
use Rattle.fixed_bellman.specs.declared.bounds.Bounds.{Bounds}
use Rattle.fixed_bellman.specs.Bounds.{lowers, uppers}
use Rattle.bounded_rounds.specs.inside.Parts.{IsBoundsTable}
use Rattle.bounded_rounds.specs.Steps.{IsSweep}
use Rattle.bounded_rounds.proofs.Parts.{IsBoundsTable-opened, lowers-opened, uppers-opened, lowers-units, uppers-units}
use Rattle.bounded_rounds.proofs.sweep.bounded.Goals as goal

pub iterate-table-requires-clause-table : goal.iterate-table-requires-clause-table
iterate-table-requires-clause-table g c _ _ =
    subst (λ (t : List Bounds). IsBoundsTable c.args.question.now t) (sym c.in_ok-first.ensures)
    (IsBoundsTable-opened c.args.question.now c.args.opening.now c.requires.opening c.requires.units)

pub iterate-table-requires-clause-same : goal.iterate-table-requires-clause-same
iterate-table-requires-clause-same g c _ _ =
    let opening : List ℕ = c.args.opening.now in
    subst (λ (t : List Bounds). uppers t ≡ lowers t) (sym c.in_ok-first.ensures)
    (uppers-opened opening ∙ sym (lowers-opened opening))

pub returns-clause-sweep : goal.returns-clause-sweep
returns-clause-sweep g c =
    let q = c.args.question.now in
    let opening : List ℕ = c.args.opening.now in
    let last : List Bounds = c.iterate-table.result.items in
    let opens : lowers c.in_ok-first.first.items ≡ opening =
    ap (λ (t : List Bounds). lowers t) c.in_ok-first.ensures ∙ lowers-opened opening in
    let lower : c.in_ok-parted.field-0.lower.items ≡ lowers last =
    c.in_ok-parted.ensures.lower ∙ ap (λ (t : List Bounds). lowers t) c.deref.ensures.value in
    let upper : c.in_ok-parted.field-0.upper.items ≡ uppers last =
    c.in_ok-parted.ensures.upper ∙ ap (λ (t : List Bounds). uppers t) c.deref.ensures.value in
    rw (lower, upper) (subst (λ (t : List ℕ). IsSweep q (slice_index t) c.args.steps (lowers last) (uppers last)) opens
    c.iterate-table.ensures.sweep)

pub returns-clause-units : goal.returns-clause-units
returns-clause-units g c =
    let last : List Bounds = c.iterate-table.result.items in
    let lower : c.in_ok-parted.field-0.lower.items ≡ lowers last =
    c.in_ok-parted.ensures.lower ∙ ap (λ (t : List Bounds). lowers t) c.deref.ensures.value in
    let upper : c.in_ok-parted.field-0.upper.items ≡ uppers last =
    c.in_ok-parted.ensures.upper ∙ ap (λ (t : List Bounds). uppers t) c.deref.ensures.value in (
      subst (All (λ v. v ≤ unit)) (sym lower) (lowers-units last c.iterate-table.ensures.units),
      subst (All (λ v. v ≤ unit)) (sym upper) (uppers-units last c.iterate-table.ensures.units),
    )
