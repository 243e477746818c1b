use Rattle.std.proofs.Common.{◌∙◌, ap, ℕ, List, Option}
use Rattle.label_lines.specs.Named.{places_of}
use Rattle.label_lines.proofs.NamedMarks.{places_of-replicate}
use Rattle.label_reader.proofs.owners.first_owns_all.Goals as goal

pub returns-clause-owners : goal.returns-clause-owners
returns-clause-owners c =
    ap (λ (owners : List (Option ℕ)). places_of owners) c.in_ok-owners.ensures ∙ places_of-replicate c.args.states
