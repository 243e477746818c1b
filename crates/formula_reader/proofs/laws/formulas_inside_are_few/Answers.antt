use Rattle.formula_reader.proofs.FewInside.{few_inside}
use Rattle.formula_reader.proofs.laws.formulas_inside_are_few.Goals as goal

pub returns : goal.returns
returns c = few_inside
