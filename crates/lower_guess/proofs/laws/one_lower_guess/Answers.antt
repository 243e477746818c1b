use Rattle.lower_guess.proofs.One.{one-lower-guess}
use Rattle.lower_guess.proofs.laws.one_lower_guess.Goals as goal

pub returns : goal.returns
returns c = one-lower-guess
