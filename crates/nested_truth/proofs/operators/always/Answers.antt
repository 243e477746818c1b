use Rattle.std.proofs.Common.{length, subst}
use Rattle.formula_reader.specs.Formula.{tree_of}
use Rattle.formula_truth.specs.ThreeValued.{exactly, negated}
use Rattle.formula_truth.specs.Truth.{everywhere}
use Rattle.nested_truth.specs.Seen.{AreAlike, band_in, model_of, seen}
use Rattle.nested_truth.proofs.Answered.{always-found, if_ok-band}
use Rattle.nested_truth.proofs.operators.always.Goals as goal

pub returns-clause-found : goal.returns-clause-found
returns-clause-found g c =
    let m = model_of c.args.setting in
    always-found m (tree_of c.args.formula.now) (tree_of c.in_ok-dual.dual) c.in_ok-dual.ensures
    (seen c.in_ok-left.left) (seen c.negated-right.result) (seen c.args.right)
    (subst (λ n. AreAlike n (exactly everywhere) (seen c.in_ok-left.left)) c.states.ensures c.in_ok-left.ensures.known)
    (subst (λ n. AreAlike n (negated (seen c.args.right)) (seen c.negated-right.result)) c.requires.right
    c.negated-right.ensures.known)
    c.args.starts.now c.args.setting.way
    (band_in c.in_ok-found.found) c.in_ok-found.found.how c.in_ok-found.ensures.found
    band_in (λ bounds. bounds.how) c.mirrored.result c.mirrored.ensures.band c.mirrored.ensures.how

pub returns-clause-band : goal.returns-clause-band
returns-clause-band g c =
    if_ok-band (length c.args.setting.game.now) band_in c.mirrored.result
    (band_in c.in_ok-found.found) c.in_ok-found.ensures.band c.mirrored.ensures.band
