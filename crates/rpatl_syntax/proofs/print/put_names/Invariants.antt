use Rattle.std.proofs.Common.{◌≡◌, ◌++◌, length}
use Rattle.rpatl_syntax.specs.Spelling.{names_spelling}
use Rattle.rpatl_syntax.proofs.print.put_names.Given as goal

abbrev pub invariant-loop-name : goal.invariant-loop-name
invariant-loop-name l = l.out.items ++ names_spelling l.rest ≡ l.fn.out.items ++ names_spelling l.names

abbrev pub decreases-loop-name : goal.decreases-loop-name
decreases-loop-name l = length l.rest
