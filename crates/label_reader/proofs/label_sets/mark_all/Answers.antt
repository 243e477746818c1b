use Rattle.std.proofs.Common.{◌∙◌, sym, ap, cond, Err, rules}
use Rattle.std.specs.List.{list_all}
use Rattle.text_lines.specs.Text.{fields_of}
use Rattle.label_lines.specs.declared.faults.LabCause.TheVariants.{BadField, UnknownIndex}
use Rattle.label_lines.specs.Lines.{is_number, known_fields}
use Rattle.label_lines.proofs.KnownLines.{known_fields-place, known_fields-no_place}
use Rattle.label_reader.proofs.label_sets.mark_all.Goals as goal

pub loop-field-preserved : goal.loop-field-preserved
loop-field-preserved c =
    let items = c.args.header.now in
    record {
      known =
          sym (ap (λ fields. known_fields items fields) c.in-Some.ensures ∙ known_fields-place items c.in-Some.field.now
          (fields_of c.in-Some.after.now) c.in-Some-place.place (sym c.in-Some-place.ensures.value))
          ∙ c.loop-field.invariant.known;
      marks = search rules;
      states = c.mark.ensures.states;
      lengths = λ n long. c.mark.ensures.lengths n (c.loop-field.invariant.lengths n long);
    }

pub returns-in_default-place-clause-known : goal.returns-in_default-place-clause-known
returns-in_default-place-clause-known c =
    let items = c.args.header.now in
    ap (λ cause. Err cause) (c.fault_of_numbers.ensures
    ∙ ap (λ fields. cond (list_all is_number fields) UnknownIndex BadField) c.in-Some.ensures)
    ∙ sym (known_fields-no_place items c.in-Some.field.now (fields_of c.in-Some.after.now)
    (sym c.in_default-place.ensures.value))
    ∙ sym (ap (λ fields. known_fields items fields) c.in-Some.ensures)
    ∙ c.loop-field.invariant.known
