use Rattle.formula_reader.specs.Formula.{tree_of}
use Rattle.rpatl_syntax.proofs.Reread.{printed_again}
use Rattle.rpatl_syntax.proofs.print.print_formula.Goals as goal

pub returns-clause-again : goal.returns-clause-again
returns-clause-again c = printed_again c.spell.result (tree_of c.args.formula.now) c.spell.ensures
