use Rattle.std.proofs.Common.{refl}
use Rattle.formula_reader.specs.Formula.{tree_of}
use Rattle.nested_truth.specs.Seen.{band_in, model_of}
use Rattle.nested_truth.proofs.Answered.{nested-of, undecided-fits}
use Rattle.nested_truth.proofs.run.answer_in.Goals as goal

pub overflow_add-undecided : goal.overflow_add-undecided
overflow_add-undecided g c = record {
  fits = undecided-fits (model_of c.args.setting) c.args.setting.is_game c.args.setting.way _ _ c.in_ok-left.left
      c.in_ok-right.right c.in_ok-left.ensures c.in_ok-right.ensures c.requires.few;
}

pub returns-clause-nested : goal.returns-clause-nested
returns-clause-nested g c =
    nested-of (model_of c.args.setting) c.args.setting.is_game c.args.setting.way
    (tree_of c.args.formula.now) c.in_ok-left.left c.in_ok-right.right c.in_ok-left.ensures c.in_ok-right.ensures
    c.args.initial.items (band_in c.in_ok-bounds.bounds) c.in_ok-bounds.bounds.how
    (rw (c.deref.ensures.value) at c.in_ok-bounds.ensures.found) c.requires.spellable c.requires.initial _ _ refl refl
