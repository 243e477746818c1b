use Rattle.std.proofs.Common.{◌≡◌, ◌+◌, length}
use Rattle.numerals.specs.Spelling.{digits_len}
use Rattle.numerals.proofs.spelling.digits_length.Given as goal

abbrev pub invariant-loop-rest : goal.invariant-loop-rest
invariant-loop-rest l = record {
  value : l.count + digits_len l.rest ≡ digits_len l.text;
  size : l.count + length l.rest ≡ length l.text;
}

abbrev pub decreases-loop-rest : goal.decreases-loop-rest
decreases-loop-rest l = length l.rest
