use Rattle.std.proofs.Common.{◌∙◌, ap, sym, eqb, zero-add}
use Rattle.std.specs.List.{list_any}
use Rattle.label_lines.specs.Labels.{marks_of, marked_from}
use Rattle.label_lines.proofs.RisingStates.{marked_from-rises, list_any-marked_from}
use Rattle.label_lines.proofs.laws.states_with_a_label_are_those_where_it_holds.Goals as goal

pub returns : goal.returns
returns c = record {
  rising = λ l name. marked_from-rises 0 (marks_of l.labels name);
  each = λ l name state.
      ap (λ x. list_any (λ s. eqb s x) (marked_from 0 (marks_of l.labels name))) (sym (zero-add state))
      ∙ list_any-marked_from 0 (marks_of l.labels name) state;
}
