use Rattle.output.proofs.RefusalTextInjective.{refusal-one}
use Rattle.output.proofs.laws.refusals_have_one_reading.Goals as goal

pub returns : goal.returns
returns c = refusal-one
