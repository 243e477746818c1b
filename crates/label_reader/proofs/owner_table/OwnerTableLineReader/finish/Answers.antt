use Rattle.std.proofs.Common.{ℕ, List, Ok, sym, ap, map, ◌∙◌}
use Rattle.label_lines.specs.Header.{Item}
use Rattle.label_lines.specs.Named.{places_of}
use Rattle.label_lines.specs.Owners.{Ownership}
use Rattle.label_reader.proofs.Filled.{names_of-items, places_of-read}
use Rattle.label_reader.proofs.owner_table.OwnerTableLineReader.finish.Goals as goal

abbrev owned : List (List ℕ) → List ℕ → Ownership
owned players owners = record { players = players; owners = owners }

abbrev names : List Item → List (List ℕ)
names items = map (λ item. item.name) items

pub returns : goal.returns
returns c = λ number read holds.
    let items = c.args.self.header in
    let owners = c.args.self.owners.items in
    let players = names_of-items c.into_names.result.entries ∙ ap (λ (is : List Item). names is) c.into_names.ensures in
    ap (λ (o : Ownership). Ok o)
    (ap (λ (places : List ℕ). owned (names items) places)
    (sym (places_of-read c.args.self.states items read owners holds))
    ∙ ap (λ (ns : List (List ℕ)). owned ns (places_of owners)) (sym players)
    ∙ sym c.new.ensures)
