use Rattle.std.proofs.Common.{◌≡◌, ◌∙◌, ◌++◌, ◌∷◌, [], ℕ, List, Some, Vec, Global, false, cond, length, nat_eq, ap, sym}
use Rattle.std.proofs.Common.{subst, rules}
use Rattle.std.specs.HashMap.{get}
use Rattle.std.proofs.lemmas.List.{length-map}
use Rattle.label_lines.specs.Header.{Item, has_name}
use Rattle.label_lines.specs.Placed.{item_at, items_of, ArePlaced}
use Rattle.label_lines.proofs.HeaderSteps.{insert_entry-last, items_of-push, ArePlaced-push, has_index-none}
use Rattle.label_lines.proofs.header.Header.with.Goals as goal

abbrev named : ℕ → List ℕ → Item
named index name = record { index = index; name = name }

more : (entries grown : List (Vec ℕ Global × ℕ)) (self : List Item) (key : Vec ℕ Global) (index : ℕ) (name : List ℕ)
    → items_of entries ≡ self → key.items ≡ name → grown ≡ entries ++ (key, index) ∷ []
    → items_of grown ≡ self ++ named index name ∷ []
more entries grown self key index name view bytes push =
    ap (λ (es : List (Vec ℕ Global × ℕ)). items_of es) push ∙ items_of-push entries (key, index)
    ∙ ap (λ (items : List Item). items ++ item_at (key, index) ∷ []) view ∙ ap (λ n. self ++ named index n ∷ []) bytes

new_name : (entries : List (Vec ℕ Global × ℕ)) (self : List Item) (bytes name : List ℕ) → items_of entries ≡ self
    → bytes ≡ name → has_name self name ≡ false → has_name (items_of entries) bytes ≡ false
new_name entries self bytes name view same new =
    ap (λ (items : List Item). has_name items bytes) view ∙ ap (λ n. has_name self n) same ∙ new

pub invariant_of-result : goal.invariant_of-result
invariant_of-result c =
    let entries = c.self.inside.names.entries in
    let bytes : c.in-Ok.name.items ≡ c.args.name.now = search rules in
    let push = c.in-Ok-insert.ensures.entries ∙ insert_entry-last entries c.in-Ok.name c.args.index
    (new_name entries c.args.self c.in-Ok.name.items c.args.name.now c.self.view_is bytes c.requires.new_name) in
    let items = more entries c.insert.new.self.entries c.args.self c.in-Ok.name c.args.index c.args.name.now
    c.self.view_is bytes push in
    let P : List Item → Type 0 = λ is. ArePlaced is c.self.inside.places in
    let Q : List Item → Type 0 = λ is. ArePlaced is c.insert-2.new.self in
    let count : c.len-place.result ≡ length c.args.self =
    c.len-place.ensures.len ∙ sym (length-map entries item_at) ∙ ap (λ (is : List Item). length is) c.self.view_is in
    subst Q (sym items)
    (ArePlaced-push c.args.self (named c.args.index c.args.name.now) c.self.inside.places c.insert-2.new.self
    (subst P c.self.view_is c.self.invariant)
    (has_index-none c.args.self c.args.index c.requires.new_index) c.requires.small
    (λ index. c.in-Ok-insert-2.ensures.updates.0 index
    ∙ ap (λ n. cond (nat_eq c.args.index index) (Some n) (get nat_eq c.self.inside.places index)) count))

pub returns : goal.returns
returns c =
    let entries = c.self.inside.names.entries in
    let bytes : c.in-Ok.name.items ≡ c.args.name.now = search rules in
    let push = c.in-Ok-insert.ensures.entries ∙ insert_entry-last entries c.in-Ok.name c.args.index
    (new_name entries c.args.self c.in-Ok.name.items c.args.name.now c.self.view_is bytes c.requires.new_name) in
    more entries c.insert.new.self.entries c.args.self c.in-Ok.name c.args.index c.args.name.now
    c.self.view_is bytes push
