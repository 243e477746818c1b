use Rattle.plan_text.proofs.Digits.{fixed-one}
use Rattle.plan_text.proofs.laws.fixed_text_has_one_reading.Goals as goal

pub returns : goal.returns
returns c = fixed-one
