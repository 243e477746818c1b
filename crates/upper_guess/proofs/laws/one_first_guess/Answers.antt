use Rattle.upper_guess.proofs.One.{one-first-guess}
use Rattle.upper_guess.proofs.laws.one_first_guess.Goals as goal

pub returns : goal.returns
returns c = one-first-guess
