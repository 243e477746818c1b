use Rattle.std.proofs.Common.{refl}
use Rattle.value_words.proofs.laws.tables_open_as_the_core_does.Goals as goal

pub returns : goal.returns
returns c = λ q slots. refl
