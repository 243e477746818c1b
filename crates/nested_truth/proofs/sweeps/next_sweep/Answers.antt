use Rattle.std.proofs.Common.{◌∙◌, sym}
use Rattle.formula_reader.specs.Formula.{tree_of}
use Rattle.formula_sets.specs.Posing.{next_question_of}
use Rattle.nested_truth.proofs.Ways.{stepped-once, stepped-twice}
use Rattle.nested_truth.proofs.sweeps.next_sweep.Goals as goal

pub returns-then-are_equal-clause-swept : goal.returns-then-are_equal-clause-swept
returns-then-are_equal-clause-swept g c =
    let right = c.args.right.now in
    let f = tree_of c.args.formula.now in
    stepped-once c.in_ok-question.question (next_question_of c.args.setting.game.now c.args.setting.owners.now f)
    c.in_ok-question.ensures right.sure.items right.possible.items _ _
    (rw (c.deref.ensures.value) at c.in_ok-lower.ensures.sweep)
    (sym c.deref-2.ensures.value ∙ c.are_equal.ensures.0 c.if-are_equal.true ∙ c.deref-3.ensures.value)

pub returns-clause-swept : goal.returns-clause-swept
returns-clause-swept g c =
    let right = c.args.right.now in
    let f = tree_of c.args.formula.now in
    stepped-twice c.in_ok-question.question (next_question_of c.args.setting.game.now c.args.setting.owners.now f)
    c.in_ok-question.ensures right.sure.items right.possible.items _ _
    (rw (c.deref.ensures.value) at c.in_ok-lower.ensures.sweep) _ _
    (rw (c.deref-4.ensures.value) at c.in_ok-upper.ensures.sweep)
