use Rattle.std.proofs.Common.{◌∙◌, ap}
use Rattle.label_lines.specs.Labels.{is_known}
use Rattle.label_lines.proofs.NamedMarks.{is_some-lookup, list_any-labels_named}
use Rattle.label_reader.proofs.labels.Labels.knows.Goals as goal

pub returns : goal.returns
returns c =
    c.contains_key.ensures
    ∙ is_some-lookup c.self.inside.names.entries c.args.name.now
    ∙ list_any-labels_named c.self.inside.names.entries c.self.inside.sets.items c.args.name.now c.self.invariant.count
    ∙ ap (λ l. is_known l c.args.name.now) c.self.view_is
