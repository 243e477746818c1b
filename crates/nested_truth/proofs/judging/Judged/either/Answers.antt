use Rattle.std.proofs.Common.{refl}
use Rattle.nested_truth.proofs.Parts.{judged-or}
use Rattle.nested_truth.proofs.judging.Judged.either.Goals as goal

pub returns : goal.returns
returns c = λ m way x y h i.
    judged-or m way x y c.args.self c.args.other _ h i c.either.ensures.states refl refl c.either.ensures.known
