use Rattle.numerals.proofs.Grammar.{spelling_of-found, spelling_of-again}
use Rattle.numerals.proofs.laws.spellings.Goals as goal

pub returns : goal.returns
returns c = λ text spelling. (spelling_of-found text spelling, spelling_of-again text spelling)
