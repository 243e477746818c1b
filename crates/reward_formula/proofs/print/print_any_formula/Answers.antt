use Rattle.reward_formula.specs.Formula.{any_of}
use Rattle.reward_formula.proofs.Reread.{printed_again}
use Rattle.reward_formula.proofs.print.print_any_formula.Goals as goal

pub returns-clause-again : goal.returns-clause-again
returns-clause-again c = printed_again c.spell.result (any_of c.args.formula.now) c.spell.ensures
