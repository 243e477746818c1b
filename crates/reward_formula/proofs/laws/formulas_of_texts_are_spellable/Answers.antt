use Rattle.reward_formula.proofs.Kept.{any_spellable}
use Rattle.reward_formula.proofs.laws.formulas_of_texts_are_spellable.Goals as goal

pub returns : goal.returns
returns c = any_spellable
