use Rattle.rpatl_syntax.proofs.Reread.{spellable}
use Rattle.rpatl_syntax.proofs.laws.formulas_of_texts_are_spellable.Goals as goal

pub returns : goal.returns
returns c = spellable
