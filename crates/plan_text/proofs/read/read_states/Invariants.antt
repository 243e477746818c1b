use Rattle.std.proofs.Common.{◌≡◌, ◌≤◌, ◌+◌, [], length}
use Rattle.text_lines.specs.Text.{lines_of, significant}
use Rattle.plan_text.specs.Entries.{HasStates, entries_of}
use Rattle.plan_text.specs.Said.{entries_from}
use Rattle.plan_text.proofs.read.read_states.Given as goal

abbrev pub invariant-loop-state : goal.invariant-loop-state
invariant-loop-state l = record {
  lists : HasStates l.plan l.state;
  said : entries_from l.version l.states (entries_of l.plan) l.number (significant (lines_of l.rest))
      ≡ entries_from l.version l.states [] l.first (significant (lines_of l.text));
  number : l.number + length l.rest ≤ l.first + length l.text;
}
