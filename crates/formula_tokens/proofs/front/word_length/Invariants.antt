use Rattle.std.proofs.Common.{◌≡◌, ◌+◌, length}
use Rattle.formula_tokens.specs.Tokens.{word_length}
use Rattle.formula_tokens.proofs.front.word_length.Given as goal

abbrev pub invariant-loop-left : goal.invariant-loop-left
invariant-loop-left l = record {
  value : l.count + word_length l.left ≡ word_length l.rest;
  within : l.count + length l.left ≡ length l.rest;
}

abbrev pub decreases-loop-left : goal.decreases-loop-left
decreases-loop-left l = length l.left
