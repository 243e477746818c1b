use Rattle.std.proofs.Common.{◌≡◌, ◌≤◌, ◌++◌, drop, length}
use Rattle.plan_text.specs.Fixed.{last_digits, unit_digits}
use Rattle.plan_text.proofs.fixed.last_digits_of.Given as goal

abbrev pub invariant-loop-place : goal.invariant-loop-place
invariant-loop-place l = record {
  written : last_digits l.place l.rest ++ drop l.place l.digits ≡ last_digits unit_digits l.fn.number;
  within : l.place ≤ unit_digits;
  size : length l.digits ≡ unit_digits;
}

abbrev pub decreases-loop-place : goal.decreases-loop-place
decreases-loop-place l = l.place
