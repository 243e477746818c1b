use Rattle.step_core.proofs.Told.{Lawful-none, none-Lawful}
use Rattle.step_core.proofs.laws.lawful_where_no_reason.Goals as goal

pub returns : goal.returns
returns c = λ w event k. (Lawful-none w event k.question, none-Lawful w event)
