use Rattle.std.proofs.Common.{◌<◌, ℕ, length, subst, sym, All}
use Rattle.std.proofs.lemmas.List.{length-map}
use Rattle.std.proofs.lemmas.List.Elements.{All-map}
use Rattle.std.specs.Option.{unwrap_or}
use Rattle.label_lines.specs.Owners.{Ownership, IsOwnership}
use Rattle.label_lines.specs.Named.{places_of}
use Rattle.label_reader.proofs.owners.Owners.invariant.Goals as goal

pub returns : goal.returns
returns c =
    let P : Ownership → Type 0 = λ o. IsOwnership o in
    let Q : ℕ → Type 0 = λ n. All (λ place. place < n) (places_of c.self.inside.owners.items) in
    let named = All-map (λ place. place < length c.self.inside.names.entries)
    (λ owner. unwrap_or owner 0) c.self.inside.owners.items c.self.invariant.known in
    subst P c.self.view_is
    (record { known = subst Q (sym (length-map c.self.inside.names.entries (λ entry. entry.0.items))) named })
