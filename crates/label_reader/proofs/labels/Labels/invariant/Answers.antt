use Rattle.std.proofs.Common.{subst}
use Rattle.label_lines.specs.Labels.{Labelling, IsLabelling}
use Rattle.label_lines.proofs.NamedMarks.{All-labels_named}
use Rattle.label_reader.proofs.labels.Labels.invariant.Goals as goal

pub returns : goal.returns
returns c =
    let P : Labelling → Type 0 = λ l. IsLabelling l in
    subst P c.self.view_is (record {
      lengths = All-labels_named c.self.inside.states c.self.inside.names.entries c.self.inside.sets.items
          c.self.invariant.lengths;
    })
