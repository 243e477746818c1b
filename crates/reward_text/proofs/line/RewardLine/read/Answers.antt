use Rattle.std.proofs.Common.{◌≡◌, ◌∙◌, None, Some, Ok, Err, cond, sym, ap, rules}
use Rattle.std.specs.Option.{option_map}
use Rattle.text_lines.specs.Text.{fields_of, saturated}
use Rattle.plan_text.specs.declared.fault.PlanCause.TheVariants.{NumberOutOfRange}
use Rattle.plan_text.specs.Parts.{saturated_entry}
use Rattle.reward_text.specs.Said.{reward_entry_in}
use Rattle.reward_text.proofs.Bounds.{line-read}
use Rattle.reward_text.proofs.line.RewardLine.read.Goals as goal

pub returns-in_default-clause-said : goal.returns-in_default-clause-said
returns-in_default-clause-said c =
    let spelled = reward_entry_in c.args.places c.args.state (fields_of c.args.line.now) in
    let none : None ≡ option_map (saturated_entry (option_map saturated)) spelled = search rules in
    line-read None _ none

pub returns-then-is_in_range-clause-said : goal.returns-then-is_in_range-clause-said
returns-then-is_in_range-clause-said c =
    sym (ap (λ v. cond v (Ok c.in-Some.entry) (Err NumberOutOfRange))
    (sym c.is_in_range.ensures ∙ c.if-is_in_range.true)) ∙ line-read (Some c.in-Some.entry) _ c.in-Some.ensures

pub returns-else-is_in_range-clause-said : goal.returns-else-is_in_range-clause-said
returns-else-is_in_range-clause-said c =
    sym (ap (λ v. cond v (Ok c.in-Some.entry) (Err NumberOutOfRange))
    (sym c.is_in_range.ensures ∙ c.if-is_in_range.false)) ∙ line-read (Some c.in-Some.entry) _ c.in-Some.ensures
