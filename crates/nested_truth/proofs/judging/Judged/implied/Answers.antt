use Rattle.std.proofs.Common.{◌∙◌, refl}
use Rattle.nested_truth.proofs.Parts.{judged-implies}
use Rattle.nested_truth.proofs.judging.Judged.implied.Goals as goal

pub returns : goal.returns
returns c = λ m way x y h i.
    judged-implies m way x y c.args.self c.args.other _ h i (c.either.ensures.states ∙ c.negated.ensures.states) refl
    refl c.negated.result c.negated.ensures.states c.negated.ensures.known c.either.ensures.known
