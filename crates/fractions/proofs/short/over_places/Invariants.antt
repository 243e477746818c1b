use Rattle.std.proofs.Common.{◌≡◌, ◌≤◌, ◌+◌, ◌-◌, ◌*◌, ◌^◌, drop, length}
use Rattle.text_lines.specs.Text.{value_onto, all_digits}
use Rattle.fractions.proofs.short.over_places.Given as goal

abbrev pub invariant-loop-b : goal.invariant-loop-b
invariant-loop-b l = record {
  num : value_onto l.num (drop l.b-index l.back) ≡ value_onto (l.fn.front - 48) l.back;
  den : l.den ≡ 10 ^ l.b-index;
  digits : all_digits l.back ≡ all_digits (drop l.b-index l.back);
  small : (l.num + 1) * 10 ^ (length l.back - l.b-index) ≤ 10 ^ 19;
}
