-- What the readers have filled is what the lines say.
use Rattle.std.proofs.Common.{◌≡◌, ◌<◌, ℕ, suc, Bool, false, List, [], ◌∷◌, length, map, get_or, Option, None, Vec}
use Rattle.std.proofs.Common.{Global, sym, ap, ◌∙◌, refl, subst, arith}
use Rattle.std.specs.Option.{unwrap_or}
use Rattle.std.specs.List.{range_with_len}
use Rattle.std.proofs.lemmas.List.{length-map, get_or-map, ext_get_or}
use Rattle.std.proofs.lemmas.List.FromFn.{get_or-map-range_with_len, length-map-range_with_len}
use Rattle.label_lines.specs.Header.{Item}
use Rattle.label_lines.specs.Placed.{items_of, item_at, indices_of}
use Rattle.label_lines.specs.Labels.{Label}
use Rattle.label_lines.specs.Named.{names_of, labels_named, places_of}
use Rattle.label_lines.specs.Lines.{StateLine, said_of}
use Rattle.label_lines.specs.Texts.{is_said, label_from, owner_place}
use Rattle.label_reader.specs.inside.Marked.{AreMarked}
use Rattle.label_reader.specs.inside.Owned.{first_of, AreRead}

abbrev Entries : Type 0
Entries = List (Vec ℕ Global × ℕ)

abbrev row : ℕ → List StateLine → ℕ → List Bool
row n lines index = map (is_said lines index) (range_with_len 0 n)

row_is : (n : ℕ) (items : List Item) (lines : List StateLine) (sets : List (List Bool))
    → AreMarked n items (is_said lines) sets → (k : ℕ) → k < length items
    → get_or sets k [] ≡ row n lines (get_or (indices_of items) k 0)
row_is n items lines sets m k kl =
    let long : length (get_or sets k []) ≡ n = m.lengths k [] (omega (arith, m.count, kl)) in
    ext_get_or false (get_or sets k []) (row n lines (get_or (indices_of items) k 0))
    (long ∙ sym (length-map-range_with_len (is_said lines (get_or (indices_of items) k 0)) 0 n))
    (λ i il. m.marks k i kl (omega (arith, long, il)) ∙ sym (get_or-map-range_with_len
    (is_said lines (get_or (indices_of items) k 0)) 0 n i i false (omega (arith, long, il)) (omega arith)))

labels_are : (n : ℕ) (lines : List StateLine) (entries : Entries) (sets : List (List Bool))
    → length sets ≡ length entries
    → ((k : ℕ) → k < length entries → get_or sets k [] ≡ row n lines (get_or (indices_of (items_of entries)) k 0))
    → labels_named entries sets ≡ map (label_from n lines) (items_of entries)
labels_are n lines [] [] same rows = refl
labels_are n lines [] (marks ∷ sets) same rows = absurd (omega arith)
labels_are n lines (entry ∷ entries) [] same rows = absurd (omega arith)
labels_are n lines (entry ∷ entries) (marks ∷ sets) same rows =
    ap (λ (t : List Bool). labelled entry.0.items t ∷ labels_named entries sets) (rows 0 (omega arith))
    ∙ ap (λ (ls : List Label). label_from n lines (item_at entry) ∷ ls)
    (labels_are n lines entries sets (omega arith) (λ k kl. rows (suc k) (omega arith)))
  where
    labelled : List ℕ → List Bool → Label
    labelled name marks = record { name = name; marks = marks }

-- the sets with their names are the labels that the lines say
pub labels_named-marked : (n : ℕ) (lines : List StateLine) (entries : Entries) (items : List Item)
    (sets : List (List Bool)) → items_of entries ≡ items → AreMarked n items (is_said lines) sets
    → labels_named entries sets ≡ map (label_from n lines) items
labels_named-marked n lines entries items sets same m =
    let P : List Item → Type 0 = λ is. AreMarked n is (is_said lines) sets in
    let marked = subst P (sym same) m in
    let count : length (items_of entries) ≡ length entries = length-map entries item_at in
    labels_are n lines entries sets (marked.count ∙ count)
    (λ k kl. row_is n (items_of entries) lines sets marked k (omega (arith, count, kl)))
    ∙ ap (λ is. map (label_from n lines) is) same

pub names_of-items : (entries : Entries) → names_of entries ≡ map (λ (item : Item). item.name) (items_of entries)
names_of-items [] = refl
names_of-items (entry ∷ entries) = ap (λ (ns : List (List ℕ)). entry.0.items ∷ ns) (names_of-items entries)

owner_is : (items : List Item) (said : List ℕ) → unwrap_or (first_of items said) 0 ≡ owner_place items said
owner_is items [] = refl
owner_is items (number ∷ said) = refl

-- the places of the owners are those that the lines say
pub places_of-read : (n : ℕ) (items : List Item) (lines : List StateLine) (owners : List (Option ℕ))
    → AreRead n items lines owners
    → places_of owners ≡ map (λ s. owner_place items (said_of lines s)) (range_with_len 0 n)
places_of-read n items lines owners m =
    let long : length (places_of owners) ≡ n = length-map owners (λ owner. unwrap_or owner 0) ∙ m.count in
    ext_get_or 0 (places_of owners) (map (λ s. owner_place items (said_of lines s)) (range_with_len 0 n))
    (long ∙ sym (length-map-range_with_len (λ s. owner_place items (said_of lines s)) 0 n))
    (λ i il.
    get_or-map (λ owner. unwrap_or owner 0) owners i None 0 (omega (arith, m.count, long, il))
    ∙ ap (λ p. unwrap_or p 0) (m.first i (omega (arith, long, il)))
    ∙ owner_is items (said_of lines i)
    ∙ sym (get_or-map-range_with_len (λ s. owner_place items (said_of lines s)) 0 n i i 0
    (omega (arith, long, il)) (omega arith)))
