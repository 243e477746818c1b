use Rattle.rpatl_syntax.proofs.Reread.{spelling_one}
use Rattle.rpatl_syntax.proofs.laws.spellings_have_one_reading.Goals as goal

pub returns : goal.returns
returns c = spelling_one
