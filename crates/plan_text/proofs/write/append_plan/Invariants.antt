use Rattle.std.proofs.Common.{◌≡◌, ◌++◌, ◌-◌, length, map}
use Rattle.std.specs.List.{range_with_len}
use Rattle.plan_text.specs.Entries.{entry_at, entries_of}
use Rattle.plan_text.specs.Written.{entry_lines, certificate_text}
use Rattle.plan_text.proofs.write.append_plan.Given as goal

abbrev pub invariant-loop-state : goal.invariant-loop-state
invariant-loop-state l =
    l.text.items
    ++ entry_lines l.state (map (entry_at l.plan) (range_with_len l.state (length l.plan.lower.items - l.state)))
    ≡ l.fn.text.items ++ certificate_text (entries_of l.plan)
