use Rattle.std.proofs.Common.{◌≡◌, ◌≤◌, ◌+◌, length, false}
use Rattle.text_lines.specs.Text.{lines_of}
use Rattle.values_reader.specs.Faults.{counted, fault_of_named, marked}
use Rattle.values_reader.proofs.named.read_named.Given as goal

abbrev pub invariant-loop-number : goal.invariant-loop-number
invariant-loop-number l = record {
  states : l.table.states ≡ l.fn.states;
  same : fault_of_named l.fn.states (marked l.table.named.items) (counted l.next (lines_of l.rest))
      ≡ fault_of_named l.fn.states (λ state. false) (counted 1 (lines_of l.text));
  next : l.next + length l.rest ≤ 1 + length l.text;
}

abbrev pub decreases-loop-number : goal.decreases-loop-number
decreases-loop-number l = length l.rest
