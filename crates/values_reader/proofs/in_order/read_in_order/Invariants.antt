use Rattle.std.proofs.Common.{◌≡◌, ◌≤◌, ◌+◌, length}
use Rattle.std.specs.Prelude.{min}
use Rattle.text_lines.specs.Text.{lines_of}
use Rattle.values_reader.specs.Faults.{counted, first_bad}
use Rattle.values_reader.specs.Values.{AreProbabilities}
use Rattle.values_reader.proofs.in_order.read_in_order.Given as goal

abbrev pub invariant-loop-number : goal.invariant-loop-number
invariant-loop-number l = record {
  same : first_bad (counted l.next (lines_of l.rest)) ≡ first_bad (counted 1 (lines_of l.text));
  count : l.count + length (counted l.next (lines_of l.rest)) ≡ length (counted 1 (lines_of l.text));
  entries : length l.values.items ≡ min l.count l.states;
  bounds : AreProbabilities l.values.items;
  next : l.next + length l.rest ≤ 1 + length l.text;
  few : l.count + 1 ≤ l.next;
}

abbrev pub decreases-loop-number : goal.decreases-loop-number
decreases-loop-number l = length l.rest
