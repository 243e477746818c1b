use Rattle.std.proofs.Common.{◌∙◌, ap}
use Rattle.label_lines.specs.Owners.{is_player}
use Rattle.label_lines.proofs.NamedMarks.{is_some-lookup}
use Rattle.label_reader.proofs.owners.Owners.knows.Goals as goal

pub returns : goal.returns
returns c =
    c.contains_key.ensures
    ∙ is_some-lookup c.self.inside.names.entries c.args.name.now
    ∙ ap (λ o. is_player o c.args.name.now) c.self.view_is
