use Rattle.std.proofs.Common.{◌≡◌, ◌-◌, ◌++◌, append_assoc, arith, length, rules}
use Rattle.std.proofs.lemmas.List.FromFn.{length-map-range_with_len}
use Rattle.reward_text.specs.Entries.{reward_entry_at, reward_entries_of}
use Rattle.reward_text.specs.Written.{reward_entry_text}
use Rattle.reward_text.proofs.Plans.{line_added}
use Rattle.reward_text.proofs.write.append_reward_plan.Goals as goal

pub loop-state-init : goal.loop-state-init
loop-state-init c =
    let plan = c.args.plan.now in
    let states : length (reward_entries_of plan) ≡ length plan.lower.items =
    length-map-range_with_len (reward_entry_at plan) 0 (length plan.lower.items) in
    let whole : length plan.lower.items - 0 ≡ length plan.lower.items = omega arith in
    search (rules, append_assoc)

pub loop-state-preserved : goal.loop-state-preserved
loop-state-preserved c =
    let plan = c.args.plan.now in
    let added : c.append_entry.new.text.items ≡ c.loop-state.text.items
    ++ reward_entry_text plan.places c.loop-state.state (reward_entry_at plan c.loop-state.state) = search rules in
    line_added plan.places (reward_entry_at plan) c.loop-state.state (length plan.lower.items) c.loop-state.text.items
    c.append_entry.new.text.items _ (omega arith) added c.loop-state.invariant
