use Rattle.std.proofs.Common.{◌≡◌, Err, ap, sym, subst}
use Rattle.formula_reader.specs.Formula.{tree_of}
use Rattle.reward_formula.specs.Formula.{AnyTree, OfProbability, any_of}
use Rattle.reward_inputs.specs.declared.problem.RewardProblem.{RewardProblem as Seen}
use Rattle.reward_inputs.specs.Loading.{LoadsAs}
use Rattle.reward_inputs.specs.Posed.{posed_with}
use Rattle.reward_inputs.specs.Seen.{model_in, question_of}
use Rattle.reward_inputs.proofs.problem.pose_rewards.Goals as goal

pub returns-in-OfProbability-clause-says : goal.returns-in-OfProbability-clause-says
returns-in-OfProbability-clause-says c = λ lines.
    let same : any_of c.args.loaded.now.formula ≡ OfProbability (tree_of c.in-OfProbability.formula) =
    ap any_of c.in-OfProbability.is in
    subst (λ (t : AnyTree). LoadsAs {X = Seen} (question_of lines) (Err c.refuse_probability.result)
    (posed_with (model_in c.args.loaded.now) lines t)) (sym same) (c.refuse_probability.ensures.says lines)
