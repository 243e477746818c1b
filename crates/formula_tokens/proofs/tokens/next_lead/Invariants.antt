use Rattle.std.proofs.Common.{◌≡◌, ◌≤◌, ◌+◌, length}
use Rattle.formula_tokens.specs.Limits.{longest}
use Rattle.formula_tokens.specs.Tokens.{tokens_from}
use Rattle.formula_tokens.proofs.tokens.next_lead.Given as goal

abbrev pub invariant-loop-first : goal.invariant-loop-first
invariant-loop-first l = record {
  tokens : tokens_from l.place 0 l.rest ≡ tokens_from l.cursor.place 0 l.cursor.rest.now;
  short : l.place + length l.rest ≤ longest;
}

abbrev pub decreases-loop-first : goal.decreases-loop-first
decreases-loop-first l = length l.rest
