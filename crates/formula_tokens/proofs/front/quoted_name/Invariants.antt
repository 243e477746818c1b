use Rattle.std.proofs.Common.{◌≡◌, ◌≤◌, ◌+◌, length}
use Rattle.formula_tokens.specs.Limits.{longest_name}
use Rattle.formula_tokens.specs.Tokens.{name_from}
use Rattle.formula_tokens.proofs.front.quoted_name.Given as goal

abbrev pub invariant-loop-left : goal.invariant-loop-left
invariant-loop-left l = record {
  value : name_from l.read l.left ≡ name_from 0 l.rest;
  within : l.read + length l.left ≡ length l.rest;
  short : l.read ≤ longest_name;
}

abbrev pub decreases-loop-left : goal.decreases-loop-left
decreases-loop-left l = length l.left
