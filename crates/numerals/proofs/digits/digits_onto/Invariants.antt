use Rattle.std.proofs.Common.{◌≡◌, ◌≤◌, ◌+◌, ◌-◌, ◌*◌, ◌^◌, true, drop, length}
use Rattle.text_lines.specs.Text.{value_onto, all_digits}
use Rattle.numerals.proofs.digits.digits_onto.Given as goal

abbrev pub invariant-loop-b : goal.invariant-loop-b
invariant-loop-b l = record {
  value : value_onto l.value (drop l.b-index l.digits) ≡ value_onto l.before l.digits;
  digits : all_digits (drop l.b-index l.digits) ≡ true;
  small : (l.value + 1) * 10 ^ (length l.digits - l.b-index) ≤ (l.before + 1) * 10 ^ length l.digits;
}
