use Rattle.std.proofs.Common.{◌≡◌, ◌-◌, append_assoc, arith, length, rules}
use Rattle.std.proofs.lemmas.Grind.{common_steps}
use Rattle.std.proofs.lemmas.List.FromFn.{length-map-range_with_len}
use Rattle.plan_text.specs.Entries.{entry_at, entries_of}
use Rattle.plan_text.proofs.EntryLines.{entry_lines_more}
use Rattle.plan_text.proofs.write.append_plan.Goals as goal

pub loop-state-init : goal.loop-state-init
loop-state-init c =
    let plan = c.args.plan.now in
    let states : length (entries_of plan) ≡ length plan.lower.items =
    length-map-range_with_len (entry_at plan) 0 (length plan.lower.items) in
    let whole : length plan.lower.items - 0 ≡ length plan.lower.items = omega arith in
    search (rules, append_assoc)

pub loop-state-preserved : goal.loop-state-preserved
loop-state-preserved c = grind (arith, common_steps, append_assoc, entry_lines_more)
