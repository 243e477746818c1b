use Rattle.std.proofs.Common.{◌≡◌, ◌≤◌, ◌+◌, [], length}
use Rattle.text_lines.specs.Text.{lines_of, significant}
use Rattle.plan_text.specs.Said.{entries_from_by}
use Rattle.reward_text.specs.Entries.{HasRewardStates, HasUnits, reward_entries_of}
use Rattle.reward_text.specs.Said.{reward_line_said}
use Rattle.reward_text.proofs.read.read_states.Given as goal

abbrev pub invariant-loop-state : goal.invariant-loop-state
invariant-loop-state l = record {
  lists : HasRewardStates l.plan l.state;
  places : l.plan.places ≡ l.places;
  units : HasUnits l.plan;
  said : entries_from_by (reward_line_said l.places) l.states (reward_entries_of l.plan) l.number
      (significant (lines_of l.rest))
      ≡ entries_from_by (reward_line_said l.places) l.states [] l.first (significant (lines_of l.text));
  number : l.number + length l.rest ≤ l.first + length l.text;
}
