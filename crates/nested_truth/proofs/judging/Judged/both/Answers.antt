use Rattle.std.proofs.Common.{refl}
use Rattle.nested_truth.proofs.Parts.{judged-and}
use Rattle.nested_truth.proofs.judging.Judged.both.Goals as goal

pub returns : goal.returns
returns c = λ m way x y h i.
    judged-and m way x y c.args.self c.args.other _ h i c.both.ensures.states refl refl c.both.ensures.known
