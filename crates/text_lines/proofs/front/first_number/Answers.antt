use Rattle.std.proofs.Common.{◌≡◌, [], sym, ap, ◌∙◌, take, drop, rules}
use Rattle.std.proofs.lemmas.List.{nil_from_length}
use Rattle.text_lines.specs.Text.{fields_of}
use Rattle.text_lines.proofs.Texts.{fields_behind_blanks}
use Rattle.text_lines.proofs.Fronts.{number_of_line, field_of_line}
use Rattle.text_lines.proofs.front.first_number.Goals as goal

pub returns-then-is_empty : goal.returns-then-is_empty
returns-then-is_empty c =
    let none : c.behind_blanks-text.result.now ≡ [] = nil_from_length c.behind_blanks-text.result.now (search rules) in
    sym (fields_behind_blanks c.args.line.now) ∙ ap (λ t. fields_of t) (sym c.behind_blanks-text.ensures ∙ none)

pub returns-then-at_field_end : goal.returns-then-at_field_end
returns-then-at_field_end c =
    number_of_line c.args.line.now c.behind_blanks-text.result.now c.short_digits-value.result.0
    c.short_digits-value.result.1.now c.behind_blanks-text.ensures
    (search rules) (search rules) c.short_digits-value.ensures (search rules)

pub returns : goal.returns
returns c =
    let text = c.behind_blanks-text.result.now in
    let cut = c.field_length.ensures.value in
    field_of_line c.args.line.now text c.split_at.result.0.now c.split_at.result.1.now c.whole.result
    c.behind_blanks-text.ensures
    (search rules) (c.split_at.ensures.front ∙ ap (λ k. take k text) cut)
    (c.split_at.ensures.back ∙ ap (λ k. drop k text) cut) c.whole.ensures
