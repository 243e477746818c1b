use Rattle.plan_text.proofs.OldValues.{three_zeros_more}
use Rattle.plan_text.proofs.laws.old_values_have_three_zeros_less.Goals as goal

pub returns : goal.returns
returns c = three_zeros_more
