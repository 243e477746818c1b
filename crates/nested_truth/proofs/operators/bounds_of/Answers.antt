use Rattle.formula_reader.specs.Formula.{tree_of}
use Rattle.nested_truth.specs.Seen.{band_in, model_of, seen}
use Rattle.nested_truth.proofs.Answered.{always-of}
use Rattle.nested_truth.proofs.operators.bounds_of.Goals as goal

pub returns-in-Always-clause-found : goal.returns-in-Always-clause-found
returns-in-Always-clause-found g c =
    always-of c.args.formula.now.kind c.in-Always.is (model_of c.args.setting) (tree_of c.args.formula.now)
    (seen c.args.left.now) (seen c.args.right) c.args.starts.now c.args.setting.way
    band_in (λ bounds. bounds.how) c.always.result c.always.ensures.found
