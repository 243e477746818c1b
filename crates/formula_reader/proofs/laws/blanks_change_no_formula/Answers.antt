use Rattle.formula_reader.proofs.BlankFormulas.{denotes_before, denotes_end}
use Rattle.formula_reader.proofs.laws.blanks_change_no_formula.Goals as goal

pub returns : goal.returns
returns c = record { before = denotes_before; end = denotes_end }
