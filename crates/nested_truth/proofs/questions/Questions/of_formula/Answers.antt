use Rattle.std.proofs.Common.{◌∙◌, sym, ap, refl}
use Rattle.formula_reader.specs.Formula.{tree_of}
use Rattle.formula_sets.specs.Posing.{question_with}
use Rattle.nested_truth.specs.Seen.{model_of}
use Rattle.nested_truth.proofs.Tables.{filled-length}
use Rattle.nested_truth.proofs.Asked.{lost-are, lost-apart, posed-so, posed-apart}
use Rattle.nested_truth.proofs.questions.Questions.of_formula.Goals as goal

pub question_in-requires-clause-deads : goal.question_in-requires-clause-deads
question_in-requires-clause-deads c =
    let m = model_of c.args.setting in
    filled-length _ _ _ (lost-are c.args.left.now.sure.items c.args.right.now.sure.items _ _ _ _ c.deref.ensures.value
    c.deref-2.ensures.value c.requires.right c.in_ok-low_deads.ensures)

pub question_in-requires-clause-apart : goal.question_in-requires-clause-apart
question_in-requires-clause-apart c =
    lost-apart c.args.left.now.sure.items c.args.right.now.sure.items _ _ _ _ c.deref.ensures.value
    c.deref-2.ensures.value c.requires.right c.in_ok-low_deads.ensures _ c.deref-9.ensures.value

pub returns-then-same-clause-low : goal.returns-then-same-clause-low
returns-then-same-clause-low c =
    posed-so c.args.left.now.sure.items c.args.right.now.sure.items _ _ _ _ c.deref.ensures.value
    c.deref-2.ensures.value c.requires.right c.in_ok-low_deads.ensures
    (model_of c.args.setting) (tree_of c.args.formula.now) _ _ refl c.deref-9.ensures.value c.in_ok-low.ensures

pub returns-then-same-clause-high : goal.returns-then-same-clause-high
returns-then-same-clause-high c =
    let m = model_of c.args.setting in
    let f = tree_of c.args.formula.now in
    let same = c.are_same-same.ensures.0 c.if-same.true in
    posed-so c.args.left.now.possible.items c.args.right.now.possible.items _ _ _ _ c.deref-3.ensures.value
    c.deref-4.ensures.value (c.args.right.now.even ∙ c.requires.right) c.in_ok-high_deads.ensures
    m f _ _ refl (c.deref-9.ensures.value ∙ sym c.deref-5.ensures.value ∙ same.0 ∙ c.deref-6.ensures.value)
    (c.in_ok-low.ensures ∙ ap (question_with m.game m.owners f c.deref-9.result.now)
    (sym c.deref-7.ensures.value ∙ same.1 ∙ c.deref-8.ensures.value))

pub question_in-requires-2-clause-apart : goal.question_in-requires-2-clause-apart
question_in-requires-2-clause-apart c =
    lost-apart c.args.left.now.possible.items c.args.right.now.possible.items
    _ _ _ _ c.deref-3.ensures.value c.deref-4.ensures.value
    (c.args.right.now.even ∙ c.requires.right) c.in_ok-high_deads.ensures _ c.deref-10.ensures.value

pub returns-clause-low : goal.returns-clause-low
returns-clause-low c =
    posed-so c.args.left.now.sure.items c.args.right.now.sure.items _ _ _ _ c.deref.ensures.value
    c.deref-2.ensures.value c.requires.right c.in_ok-low_deads.ensures
    (model_of c.args.setting) (tree_of c.args.formula.now) _ _ refl c.deref-9.ensures.value c.in_ok-low.ensures

pub returns-clause-other : goal.returns-clause-other
returns-clause-other c =
    posed-apart (model_of c.args.setting)
    (tree_of c.args.formula.now) _ _ _ _ _ _ c.in_ok-low.ensures c.in_ok-high.ensures
    (λ goals deads.
    let same = c.are_same-same.ensures.1 (
      c.deref-5.ensures.value ∙ sym c.deref-9.ensures.value ∙ goals ∙ c.deref-10.ensures.value
          ∙ sym c.deref-6.ensures.value,
      c.deref-7.ensures.value ∙ deads ∙ sym c.deref-8.ensures.value,
    ) in
    let fails = c.if-same.false in
    cc (same, fails))

pub returns-clause-high : goal.returns-clause-high
returns-clause-high c =
    posed-so c.args.left.now.possible.items c.args.right.now.possible.items _ _ _ _ c.deref-3.ensures.value
    c.deref-4.ensures.value (c.args.right.now.even ∙ c.requires.right) c.in_ok-high_deads.ensures
    (model_of c.args.setting) (tree_of c.args.formula.now) _ _ refl c.deref-10.ensures.value c.in_ok-high.ensures
