use Rattle.std.proofs.Common.{ℕ, List, Ok, sym, ap, ◌∙◌}
use Rattle.label_lines.specs.Labels.{Label, Labelling}
use Rattle.label_reader.proofs.Filled.{labels_named-marked}
use Rattle.label_reader.proofs.label_sets.LabelSetsLineReader.finish.Goals as goal

abbrev labelled : ℕ → List Label → Labelling
labelled n labels = record { states = n; labels = labels }

pub returns : goal.returns
returns c = λ number read marked.
    ap (λ (l : Labelling). Ok l)
    (ap (λ (labels : List Label). labelled c.args.self.states labels) (sym (labels_named-marked c.args.self.states read
    c.into_names.result.entries c.args.self.header c.args.self.sets.items c.into_names.ensures marked))
    ∙ sym c.new.ensures)
