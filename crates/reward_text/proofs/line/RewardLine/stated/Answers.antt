use Rattle.std.proofs.Common.{◌≡◌, ◌∙◌, None, Some, cond, sym, ap, rules}
use Rattle.std.specs.Option.{option_map}
use Rattle.text_lines.specs.Text.{fields_of, saturated}
use Rattle.plan_text.specs.Said.{entry_in_by}
use Rattle.plan_text.specs.Parts.{saturated_entry}
use Rattle.reward_text.specs.Values.{value_in}
use Rattle.reward_text.proofs.Bounds.{bounds-read}
use Rattle.reward_text.proofs.line.RewardLine.stated.Goals as goal

pub returns-in_default : goal.returns-in_default
returns-in_default c =
    let spelled = entry_in_by (value_in c.args.places) c.args.state (fields_of c.args.line.now) in
    let none : None ≡ option_map (saturated_entry (option_map saturated)) spelled = search rules in
    bounds-read None _ none

pub returns-then-has_bounds : goal.returns-then-has_bounds
returns-then-has_bounds c =
    sym (ap (λ v. cond v (Some c.in-Some.entry) None) (sym c.has_bounds.ensures ∙ c.if-has_bounds.true))
    ∙ bounds-read (Some c.in-Some.entry) _ c.in-Some.ensures

pub returns-else-has_bounds : goal.returns-else-has_bounds
returns-else-has_bounds c =
    sym (ap (λ v. cond v (Some c.in-Some.entry) None) (sym c.has_bounds.ensures ∙ c.if-has_bounds.false))
    ∙ bounds-read (Some c.in-Some.entry) _ c.in-Some.ensures
