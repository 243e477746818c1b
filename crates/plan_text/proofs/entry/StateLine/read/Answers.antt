use Rattle.std.proofs.Common.{◌≡◌, ◌∙◌, None, Some, Ok, Err, cond, sym, ap, rules}
use Rattle.std.specs.Option.{option_map}
use Rattle.text_lines.specs.Text.{fields_of}
use Rattle.plan_text.specs.declared.fault.PlanCause.TheVariants.{NumberOutOfRange}
use Rattle.plan_text.specs.Said.{entry_in}
use Rattle.plan_text.specs.Parts.{saturated_entry}
use Rattle.plan_text.proofs.Judging.{units-read}
use Rattle.plan_text.proofs.entry.StateLine.read.Goals as goal

pub returns-in_default-clause-said : goal.returns-in_default-clause-said
returns-in_default-clause-said c =
    let spelled = entry_in c.args.version c.args.state (fields_of c.args.line.now) in
    let none : None ≡ option_map (saturated_entry (λ value. value)) spelled = search rules in
    units-read None _ none

pub returns-then-is_in_range-clause-said : goal.returns-then-is_in_range-clause-said
returns-then-is_in_range-clause-said c =
    sym (ap (λ v. cond v (Ok c.in-Some.entry) (Err NumberOutOfRange))
    (sym c.is_in_range.ensures ∙ c.if-is_in_range.true)) ∙ units-read (Some c.in-Some.entry) _ c.in-Some.ensures

pub returns-else-is_in_range-clause-said : goal.returns-else-is_in_range-clause-said
returns-else-is_in_range-clause-said c =
    sym (ap (λ v. cond v (Ok c.in-Some.entry) (Err NumberOutOfRange))
    (sym c.is_in_range.ensures ∙ c.if-is_in_range.false)) ∙ units-read (Some c.in-Some.entry) _ c.in-Some.ensures
