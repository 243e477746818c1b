use Rattle.std.proofs.Common.{◌≡◌, ◌∙◌, ◌++◌, ℕ, Bool, List, length, ap, arith}
use Rattle.label_lines.specs.Labels.{marks_of}
use Rattle.formula_sets.proofs.Inside.{marks_within}
use Rattle.formula_sets.proofs.Marked.{padded}
use Rattle.formula_sets.proofs.labels.marks_of_label.Goals as goal

pub returns : goal.returns
returns c =
    let l = c.args.labels.now in
    let named = marks_of l.labels c.args.name.now in
    let read : c.marks.result.now ≡ named =
    c.marks.ensures.marks ∙ ap (λ (name : List ℕ). marks_of l.labels name) c.as_bytes.ensures in
    let held : c.extend_from_slice.new.self.items ≡ named = c.in_ok-extend_from_slice.ensures.items
    ∙ ap (λ (xs : List Bool). xs ++ c.marks.result.now) c.in_ok-marks.ensures.items ∙ read in
    padded named _ _ c.args.states _ held (omega
    (arith, c.in_ok-extend_from_slice.ensures.len, c.in_ok-marks.ensures.len, ap (λ (xs : List Bool). length xs) read))
    (omega (arith, marks_within l c.args.name.now c.invariant.ensures, c.requires)) c.in_ok-resize.ensures.items
