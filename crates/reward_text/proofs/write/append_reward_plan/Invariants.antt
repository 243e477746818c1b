use Rattle.std.proofs.Common.{◌≡◌, ◌++◌, ◌-◌, length, map}
use Rattle.std.specs.List.{range_with_len}
use Rattle.plan_text.specs.Written.{entry_lines_by}
use Rattle.reward_text.specs.Entries.{reward_entry_at, reward_entries_of}
use Rattle.reward_text.specs.Written.{reward_entry_text, reward_certificate_text}
use Rattle.reward_text.proofs.write.append_reward_plan.Given as goal

abbrev pub invariant-loop-state : goal.invariant-loop-state
invariant-loop-state l =
    l.text.items ++ entry_lines_by (reward_entry_text l.plan.places) l.state
    (map (reward_entry_at l.plan) (range_with_len l.state (length l.plan.lower.items - l.state)))
    ≡ l.fn.text.items ++ reward_certificate_text l.plan.places (reward_entries_of l.plan)
