use Rattle.lower_guess.proofs.One.{one-lower-table}
use Rattle.lower_guess.proofs.laws.one_lower_table.Goals as goal

pub returns : goal.returns
returns c = one-lower-table
