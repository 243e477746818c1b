use Rattle.std.proofs.Common.{rules, arith, refl, ap, subst, ◌∙◌, length}
use Rattle.formula_reader.specs.Formula.{tree_of}
use Rattle.formula_truth.specs.ThreeValued.{judgement, undecided_at}
use Rattle.nested_truth.specs.Seen.{AreAlike, band_in, model_of, seen}
use Rattle.nested_truth.proofs.Answered.{undecided-fits, undecided-fits-by, undecided-fits-inside, everywhere-inside}
use Rattle.nested_truth.proofs.Answered.{judged-inside}
use Rattle.nested_truth.proofs.states.+judged.Goals as goal

pub judge-both-requires-clause-undecided : goal.judge-both-requires-clause-undecided
judge-both-requires-clause-undecided g t c =
    undecided-fits-by (model_of c.args.setting) c.args.setting.is_game c.args.setting.way _ _ c.in_ok-x-in-And.x
    c.in_ok-y-in-And.y c.in_ok-x-in-And.ensures c.in_ok-y-in-And.ensures (search rules)

pub judge-either-requires-clause-undecided : goal.judge-either-requires-clause-undecided
judge-either-requires-clause-undecided g t c =
    undecided-fits-by (model_of c.args.setting) c.args.setting.is_game c.args.setting.way _ _ c.in_ok-x-in-Or.x
    c.in_ok-y-in-Or.y c.in_ok-x-in-Or.ensures c.in_ok-y-in-Or.ensures (search rules)

pub judge-implied-requires-clause-undecided : goal.judge-implied-requires-clause-undecided
judge-implied-requires-clause-undecided g t c =
    undecided-fits-by (model_of c.args.setting) c.args.setting.is_game c.args.setting.way _ _ c.in_ok-x-in-Implies.x
    c.in_ok-y-in-Implies.y c.in_ok-x-in-Implies.ensures c.in_ok-y-in-Implies.ensures (search rules)

pub judge_inside-overflow_add-before : goal.judge_inside-overflow_add-before
judge_inside-overflow_add-before g t c = record {
  fits = undecided-fits (model_of c.args.setting) c.args.setting.is_game c.args.setting.way _ _ c.in_ok-left.left
      c.in_ok-right.right c.in_ok-left.ensures c.in_ok-right.ensures (omega (arith, c.requires.few));
}

pub judge_inside-bounds_of-requires-clause-starts : goal.judge_inside-bounds_of-requires-clause-starts
judge_inside-bounds_of-requires-clause-starts g t c =
    λ κs within. everywhere-inside (length c.args.setting.game.now) c.args.setting.everywhere.now c.args.setting.starts

pub judge_inside-overflow_add-result : goal.judge_inside-overflow_add-result
judge_inside-overflow_add-result g t c = record {
  fits =
      undecided-fits-inside (model_of c.args.setting) c.args.setting.is_game c.args.setting.way _ _ c.in_ok-left.left
      c.in_ok-right.right c.in_ok-left.ensures c.in_ok-right.ensures
      c.args.formula.now.bound (band_in c.in_ok-bounds.bounds) c.in_ok-sets.undecided _ (c.in_ok-sets.ensures.undecided
      ∙ ap (undecided_at c.args.formula.now.bound (band_in c.in_ok-bounds.bounds)) c.states.ensures)
      refl c.requires.few;
}

pub judge_inside-returns : goal.judge_inside-returns
judge_inside-returns g t c =
    let bound = c.args.formula.now.bound in
    let band = band_in c.in_ok-bounds.bounds in
    judged-inside (model_of c.args.setting) c.args.setting.is_game c.args.setting.way
    (tree_of c.args.formula.now) c.in_ok-left.left c.in_ok-right.right c.in_ok-left.ensures c.in_ok-right.ensures
    c.args.setting.everywhere.now band c.in_ok-bounds.bounds.how c.in_ok-bounds.ensures.found _ c.in_ok-sets.undecided
    c.args.setting.starts (c.in_ok-sets.ensures.states ∙ c.states.ensures)
    (subst (λ n. AreAlike n (judgement bound band) (seen c.in_ok-sets.sets)) c.states.ensures
    c.in_ok-sets.ensures.known)
    (c.in_ok-sets.ensures.undecided ∙ ap (undecided_at bound band) c.states.ensures) refl refl
