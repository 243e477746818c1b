use Rattle.std.proofs.Common.{◌≡◌}
use Rattle.formula_tokens.specs.Tokens.{count_of}
use Rattle.formula_tokens.specs.Cursor.{tokens_at}
use Rattle.reward_formula.specs.Grammar.{inner_place}
use Rattle.reward_formula.proofs.goals.inner_place.Given as goal

abbrev pub invariant-loop-token : goal.invariant-loop-token
invariant-loop-token l = inner_place (tokens_at l.rest) ≡ inner_place (tokens_at l.cursor)

abbrev pub decreases-loop-token : goal.decreases-loop-token
decreases-loop-token l = count_of (tokens_at l.rest)
