use Rattle.std.proofs.Common.{length}
use Rattle.text_lines.specs.inside.Digits.{AreDigitsBefore}
use Rattle.text_lines.proofs.front.short_digits.Given as goal

abbrev pub invariant-loop-rest : goal.invariant-loop-rest
invariant-loop-rest l = AreDigitsBefore l.text l.value l.rest

abbrev pub decreases-loop-rest : goal.decreases-loop-rest
decreases-loop-rest l = length l.rest
