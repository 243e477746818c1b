use Rattle.std.proofs.Common.{◌≡◌}
use Rattle.formula_reader.specs.Grammar.{names}
use Rattle.formula_tokens.specs.Tokens.{count_of}
use Rattle.formula_tokens.specs.Cursor.{tokens_at}
use Rattle.formula_reader.proofs.Naming.{with_names}
use Rattle.formula_reader.proofs.heads.read_names.Given as goal

abbrev pub invariant-loop-list : goal.invariant-loop-list
invariant-loop-list l = with_names l.list.items (names (tokens_at l.rest)) ≡ names (tokens_at l.cursor)

abbrev pub decreases-loop-list : goal.decreases-loop-list
decreases-loop-list l = count_of (tokens_at l.rest)
