-- Names in a map, beside what stands at their places.
use Rattle.std.proofs.Common.{◌≡◌, ◌<◌, ◌≤◌, ℕ, suc, zero, Bool, true, false, cond, List, [], ◌∷◌, length, replicate}
use Rattle.std.proofs.Common.{get_or, Some, None, Vec, Global, All, refl, sym, ap, ◌∙◌, inl, inr, arith, is_some}
use Rattle.std.proofs.Common.{bytes_eq, ltb, ◌||◌}
use Rattle.std.proofs.lemmas.Bool.{cases_Bool}
use Rattle.std.specs.List.{list_any, position_or_len}
use Rattle.std.specs.Map.{keys_of, lookup}
use Rattle.std.proofs.lemmas.List.{length-map}
use Rattle.std.proofs.lemmas.Bool.Decides.{nat_tests}
use Rattle.label_lines.specs.Labels.{Label, marks_of}
use Rattle.label_lines.specs.Named.{names_of, labels_named, places_of}

abbrev pub Entries : Type 0
Entries = List (Vec ℕ Global × ℕ)

-- the place of a name, or their number
abbrev pub place_named : Entries → List ℕ → ℕ
place_named entries name = position_or_len (λ (k : Vec ℕ Global). bytes_eq name k.items) (keys_of entries)

pub marks_of-labels_named : (entries : Entries) (sets : List (List Bool)) (name : List ℕ) → length sets ≡ length entries
    → marks_of (labels_named entries sets) name ≡ get_or sets (place_named entries name) []
marks_of-labels_named [] [] name same = refl
marks_of-labels_named [] (marks ∷ sets) name same = absurd (omega arith)
marks_of-labels_named (entry ∷ entries) [] name same = absurd (omega arith)
marks_of-labels_named (entry ∷ entries) (marks ∷ sets) name same = elim (cases_Bool (bytes_eq name entry.0.items)) [
  | inl e ↦
      ap (λ v. cond v marks (marks_of (labels_named entries sets) name)) e
      ∙ sym (ap (λ k. get_or (marks ∷ sets) k []) (at_first e))
  | inr e ↦
      ap (λ v. cond v marks (marks_of (labels_named entries sets) name)) e
      ∙ marks_of-labels_named entries sets name (omega arith)
      ∙ sym (ap (λ k. get_or (marks ∷ sets) k []) (behind e))
]
  where
    at_first : bytes_eq name entry.0.items ≡ true → place_named (entry ∷ entries) name ≡ 0
    at_first e = grind (arith, e)

    behind : bytes_eq name entry.0.items ≡ false → place_named (entry ∷ entries) name ≡ suc (place_named entries name)
    behind e = grind (arith, e)

pub placed : (b : Bool) (m i : ℕ) → cond b (Some m) None ≡ Some i → (b ≡ true) × (m ≡ i)
placed true m i h = (refl, cc)
placed false m i h = cc

pub not_placed : (b : Bool) (m : ℕ) → cond b (Some m) None ≡ None → b ≡ false
not_placed true m h = cc
not_placed false m h = refl

-- a name that is not there has a place behind all sets
pub past_sets : (entries : Entries) (sets : List (List Bool)) (name : List ℕ) → length sets ≡ length entries
    → ltb (place_named entries name) (length (keys_of entries)) ≡ false → length sets ≤ place_named entries name
past_sets entries sets name same far = past (place_named entries name) (length (keys_of entries)) (length sets)
    (same ∙ sym (length-map entries (λ (e : Vec ℕ Global × ℕ). e.0))) far
  where
    past : (p k n : ℕ) → n ≡ k → ltb p k ≡ false → n ≤ p
    past p k n e h = grind (arith, nat_tests)

pub is_some-lookup : (entries : Entries) (name : List ℕ)
    → is_some (lookup (λ (k : Vec ℕ Global). bytes_eq name k.items) entries)
    ≡ list_any (λ n. bytes_eq name n) (names_of entries)
is_some-lookup [] name = refl
is_some-lookup (entry ∷ entries) name = elim (cases_Bool (bytes_eq name entry.0.items)) [
  | inl e ↦
      ap (λ v. is_some (cond v (Some entry.1) (lookup (λ (k : Vec ℕ Global). bytes_eq name k.items) entries))) e
      ∙ sym (ap (λ v. v || list_any (λ n. bytes_eq name n) (names_of entries)) e)
  | inr e ↦
      ap (λ v. is_some (cond v (Some entry.1) (lookup (λ (k : Vec ℕ Global). bytes_eq name k.items) entries))) e
      ∙ is_some-lookup entries name
      ∙ sym (ap (λ v. v || list_any (λ n. bytes_eq name n) (names_of entries)) e)
]

pub list_any-labels_named : (entries : Entries) (sets : List (List Bool)) (name : List ℕ)
    → length sets ≡ length entries → list_any (λ n. bytes_eq name n) (names_of entries)
    ≡ list_any (λ (label : Label). bytes_eq name label.name) (labels_named entries sets)
list_any-labels_named [] [] name same = refl
list_any-labels_named [] (marks ∷ sets) name same = absurd (omega arith)
list_any-labels_named (entry ∷ entries) [] name same = absurd (omega arith)
list_any-labels_named (entry ∷ entries) (marks ∷ sets) name same =
    ap (λ v. bytes_eq name entry.0.items || v) (list_any-labels_named entries sets name (omega arith))

All-front : {X : Type 0} (P : X → Type 0) (x : X) (xs : List X) → P x → All P xs → All P (x ∷ xs)
All-front {X} P x xs first rest = each
  where
    each : (k : ℕ) (d : X) → k < length (x ∷ xs) → P (get_or (x ∷ xs) k d)
    each zero d lt = first
    each (suc k) d lt = rest k d (omega arith)

abbrev labelled : List ℕ → List Bool → Label
labelled name marks = record { name = name; marks = marks }

pub All-labels_named : (n : ℕ) (entries : Entries) (sets : List (List Bool))
    → All (λ (marks : List Bool). length marks ≡ n) sets
    → All (λ (label : Label). length label.marks ≡ n) (labels_named entries sets)
All-labels_named n [] sets h = λ k d lt. absurd (omega arith)
All-labels_named n (entry ∷ entries) [] h = λ k d lt. absurd (omega arith)
All-labels_named n (entry ∷ entries) (marks ∷ sets) h =
    All-front (λ (label : Label). length label.marks ≡ n) (labelled entry.0.items marks) (labels_named entries sets)
    (h zero [] (omega arith)) (All-labels_named n entries sets (λ j e l. h (suc j) e (omega arith)))

pub places_of-replicate : (n : ℕ) → places_of (replicate n None) ≡ replicate n 0
places_of-replicate zero = refl
places_of-replicate (suc n) = ap (λ (ps : List ℕ). 0 ∷ ps) (places_of-replicate n)
