use Rattle.std.proofs.Common.{◌∙◌, ap}
use Rattle.label_lines.specs.Header.{has_name}
use Rattle.label_lines.proofs.NamedMarks.{is_some-lookup}
use Rattle.label_lines.proofs.HeaderSteps.{has_name-names_of}
use Rattle.label_lines.proofs.header.Header.has_name.Goals as goal

pub returns : goal.returns
returns c =
    c.contains_key.ensures
    ∙ is_some-lookup c.self.inside.names.entries c.args.name.now
    ∙ has_name-names_of c.self.inside.names.entries c.args.name.now
    ∙ ap (λ items. has_name items c.args.name.now) c.self.view_is
