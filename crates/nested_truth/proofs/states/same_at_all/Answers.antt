use Rattle.nested_truth.specs.Seen.{model_of}
use Rattle.nested_truth.proofs.Parts.{judged-same}
use Rattle.nested_truth.proofs.states.same_at_all.Goals as goal

pub returns : goal.returns
returns c = judged-same (model_of c.args.setting) c.args.setting.way c.args.holds c.states.result
    c.in_ok-same_at_all.field-0 c.states.ensures c.in_ok-same_at_all.ensures.states c.in_ok-same_at_all.ensures.known
