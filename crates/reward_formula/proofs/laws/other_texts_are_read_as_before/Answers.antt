use Rattle.reward_formula.proofs.Before.{others_before}
use Rattle.reward_formula.proofs.laws.other_texts_are_read_as_before.Goals as goal

pub returns : goal.returns
returns c = others_before
