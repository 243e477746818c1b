-- Sets of states, and what the lines say.
use Rattle.std.proofs.Common.{◌≡◌, ◌≢◌, ◌<◌, ℕ, Bool, true, false, List, [], ◌∷◌, ◌++◌, length, map, get_or, set}
use Rattle.std.proofs.Common.{replicate, Option, Some, None, sym, ap, ◌∙◌, refl, subst, arith, eqb, is_some, ◌&&◌, ◌||◌}
use Rattle.std.proofs.Common.{inl, inr, ◌⊎◌}
use Rattle.std.proofs.lemmas.Bool.{and_parts, eqb-true, eqb-false, cases_Bool}
use Rattle.std.specs.Option.{IfSome, option_and_then, unwrap_or}
use Rattle.std.specs.List.{list_any, list_all}
use Rattle.std.proofs.lemmas.Bool.Decides.{nat_tests}
use Rattle.std.proofs.lemmas.List.{length-replicate, length-set, get_or-set_same, get_or-set_other}
use Rattle.std.proofs.lemmas.List.Elements.{All-set}
use Rattle.std.proofs.lemmas.Grind.{common_steps}
use Rattle.text_lines.specs.Text.{number_of}
use Rattle.label_lines.specs.Header.{Item, place_of, place_in, has_place}
use Rattle.label_lines.specs.Placed.{indices_of, AreSingle}
use Rattle.label_lines.specs.Lines.{StateLine, number_in}
use Rattle.label_lines.specs.Texts.{is_said}
use Rattle.label_reader.specs.inside.Marked.{with_mark, with_marks, AreMarked}
use Rattle.label_lines.proofs.Indexed.{place_of-within, index_at_place}
use Rattle.label_lines.proofs.SaidOf.{is_said-push}

itself : (a : ℕ) → eqb a a ≡ true
itself a = grind (arith, nat_tests)

abbrev pub Said : Type 0
Said = ℕ → ℕ → Bool

-- the number is said of the state, too
abbrev said_too : Said → ℕ → ℕ → Said
said_too said i s = λ number state. said number state || (eqb i number && eqb s state)

pub AreMarked-same : (n : ℕ) (items : List Item) (f g : Said) (sets : List (List Bool))
    → ((number state : ℕ) → f number state ≡ g number state) → AreMarked n items f sets → AreMarked n items g sets
AreMarked-same n items f g sets same m = record {
  count = m.count;
  lengths = m.lengths;
  marks = λ k s kl sl. m.marks k s kl sl ∙ same (get_or (indices_of items) k 0) s;
}

within : (items : List Item) (i k : ℕ) → place_of items i ≡ Some k → k < length items
within items i k h =
    let P : Option ℕ → Type 0 = λ p. IfSome p (λ j. j < length items) in
    subst P h (place_of-within items i)

or_true : (a : Bool) → (a || true) ≡ true
or_true true = refl
or_true false = refl

or_false : (a : Bool) → (a || false) ≡ a
or_false true = refl
or_false false = refl

and_false : (a : Bool) → (a && false) ≡ false
and_false true = refl
and_false false = refl

-- no mark, where nothing is said
pub AreMarked-nothing : (n : ℕ) (items : List Item)
    → AreMarked n items (is_said []) (replicate (length items) (replicate n false))
AreMarked-nothing n items = record {
  count = length-replicate (length items) (replicate n false);
  lengths = λ k d kl. grind (arith, common_steps);
  marks = λ k s kl sl. grind (arith, common_steps);
}

-- one mark more
pub AreMarked-mark : (n : ℕ) (items : List Item) (said : Said) (sets : List (List Bool)) (i k s : ℕ)
    → AreSingle items → place_of items i ≡ Some k → s < n → AreMarked n items said sets
    → AreMarked n items (said_too said i s) (with_mark s (Some k) sets)
AreMarked-mark n items said sets i k s single place small m = record {
  count = length-set sets k (set (get_or sets k []) s true) ∙ m.count;
  lengths = All-set (λ (marks : List Bool). length marks ≡ n) sets k (set (get_or sets k []) s true)
      (length-set (get_or sets k []) s true ∙ row_long) m.lengths;
  marks = at;
}
  where
    there : k < length sets
    there = omega (arith, m.count, within items i k place)

    row_long : length (get_or sets k []) ≡ n
    row_long = m.lengths k [] there

    index_is : get_or (indices_of items) k 0 ≡ i
    index_is = index_at_place items i k place

    same_row : (j t : ℕ) → j ≡ k → t < n → (eqb s t ≡ true) ⊎ (eqb s t ≡ false)
        → get_or (get_or (with_mark s (Some k) sets) j []) t false ≡ said_too said i s (get_or (indices_of items) j 0) t
    same_row j t e tl (inl h) =
        ap (λ x. get_or (get_or (with_mark s (Some k) sets) x []) t false) e
        ∙ ap (λ (r : List Bool). get_or r t false) (get_or-set_same sets k (set (get_or sets k []) s true) [] there)
        ∙ ap (λ x. get_or (set (get_or sets k []) s true) x false) (sym (eqb-true s t h))
        ∙ get_or-set_same (get_or sets k []) s true false (omega (arith, row_long))
        ∙ sym (ap (λ v. said (get_or (indices_of items) j 0) t || (v && eqb s t))
        (ap (λ x. eqb i x) (ap (λ x. get_or (indices_of items) x 0) e ∙ index_is) ∙ itself i)
        ∙ ap (λ v. said (get_or (indices_of items) j 0) t || v) h ∙ or_true (said (get_or (indices_of items) j 0) t))
    same_row j t e tl (inr h) =
        let apart : t ≢ s = λ q. eqb-false s t h (sym q) in
        ap (λ x. get_or (get_or (with_mark s (Some k) sets) x []) t false) e
        ∙ ap (λ (r : List Bool). get_or r t false) (get_or-set_same sets k (set (get_or sets k []) s true) [] there)
        ∙ get_or-set_other (get_or sets k []) s t true false apart
        ∙ ap (λ x. get_or (get_or sets x []) t false) (sym e)
        ∙ m.marks j t (omega (arith, e, m.count, there)) tl
        ∙ sym (ap (λ v. said (get_or (indices_of items) j 0) t || (eqb i (get_or (indices_of items) j 0) && v)) h
        ∙ ap (λ v. said (get_or (indices_of items) j 0) t || v) (and_false (eqb i (get_or (indices_of items) j 0)))
        ∙ or_false (said (get_or (indices_of items) j 0) t))

    other_index : (j : ℕ) → j ≢ k → j < length items
        → (eqb i (get_or (indices_of items) j 0) ≡ true) ⊎ (eqb i (get_or (indices_of items) j 0) ≡ false)
        → eqb i (get_or (indices_of items) j 0) ≡ false
    other_index j apart jl (inr h) = h
    other_index j apart jl (inl h) =
        let back : Some k ≡ Some j =
        sym place ∙ ap (λ x. place_of items x) (eqb-true i (get_or (indices_of items) j 0) h) ∙ single.once j jl in
        absurd (apart (sym (cc back)))

    other_row : (j t : ℕ) → j ≢ k → j < length items → t < n
        → get_or (get_or (with_mark s (Some k) sets) j []) t false ≡ said_too said i s (get_or (indices_of items) j 0) t
    other_row j t apart jl tl =
        ap (λ (r : List Bool). get_or r t false) (get_or-set_other sets k j (set (get_or sets k []) s true) [] apart)
        ∙ m.marks j t jl tl
        ∙ sym (ap (λ v. said (get_or (indices_of items) j 0) t || (v && eqb s t)) (other_index j apart jl
        (cases_Bool (eqb i (get_or (indices_of items) j 0)))) ∙ or_false (said (get_or (indices_of items) j 0) t))

    at : (j t : ℕ) → j < length items → t < n
        → get_or (get_or (with_mark s (Some k) sets) j []) t false ≡ said_too said i s (get_or (indices_of items) j 0) t
    at j t jl tl = elim (cases_Bool (eqb j k)) [
      | inl h ↦ same_row j t (eqb-true j k h) tl (cases_Bool (eqb s t))
      | inr h ↦ other_row j t (eqb-false j k h) jl tl
    ]

pub record IsPlaced (items : List Item) (field : List ℕ) : Type 0 where
  pub place : ℕ
  pub number : ℕ
  pub spelled : number_in field ≡ number
  pub at : place_of items number ≡ Some place
  pub is : place_in items field ≡ Some place

pub placed_field : (items : List Item) (field : List ℕ) → has_place items field ≡ true → IsPlaced items field
placed_field items field h = by (number_of field) refl h
  where
    by : (n : Option ℕ) → n ≡ number_of field → is_some (option_and_then (place_of items) (number_of field)) ≡ true
        → IsPlaced items field
    by None e h = let none = ap (λ x. is_some (option_and_then (place_of items) x)) e ∙ h in cc
    by (Some i) e h = found (place_of items i) refl (ap (λ x. is_some (option_and_then (place_of items) x)) e ∙ h)
      where
        found : (p : Option ℕ) → p ≡ place_of items i → is_some (place_of items i) ≡ true → IsPlaced items field
        found None q h = let none = ap is_some q ∙ h in cc
        found (Some k) q h = record {
          place = k;
          number = i;
          spelled = ap (λ x. unwrap_or x 0) (sym e);
          at = sym q;
          is = ap (λ x. option_and_then (place_of items) x) (sym e) ∙ sym q;
        }

abbrev said_all : Said → ℕ → List (List ℕ) → Said
said_all said s fields =
    λ number state. said number state || (eqb s state && list_any (λ other. eqb other number) (map number_in fields))

regroup : (a b c d : Bool) → ((a || (b && c)) || (c && d)) ≡ (a || (c && (b || d)))
regroup true b c d = refl
regroup false true true d = refl
regroup false true false d = refl
regroup false false true d = refl
regroup false false false d = refl

pub AreMarked-marks : (n : ℕ) (items : List Item) (s : ℕ) (fields : List (List ℕ)) (said : Said)
    (sets : List (List Bool)) → AreSingle items → s < n → list_all (has_place items) fields ≡ true
    → AreMarked n items said sets → AreMarked n items (said_all said s fields) (with_marks items s sets fields)
AreMarked-marks n items s [] said sets single small known m =
    AreMarked-same n items said (said_all said s []) sets
    (λ number state. sym (ap (λ v. said number state || v) (and_false (eqb s state)) ∙ or_false (said number state))) m
AreMarked-marks n items s (field ∷ fields) said sets single small known m =
    let parts = and_parts (has_place items field) (list_all (has_place items) fields) known in
    let placed = placed_field items field parts.0 in
    let first = AreMarked-mark n items said sets placed.number placed.place s single placed.at small m in
    let rest = AreMarked-marks n items s fields (said_too said placed.number s)
    (with_mark s (Some placed.place) sets) single small parts.1 first in
    let same = AreMarked-same n items (said_all (said_too said placed.number s) s fields)
    (said_all said s (field ∷ fields)) (with_marks items s (with_mark s (Some placed.place) sets) fields)
    (λ number state. regroup (said number state) (eqb placed.number number) (eqb s state)
    (list_any (λ other. eqb other number) (map number_in fields)) ∙ ap (λ x.
    said number state || (eqb s state && (eqb x number || list_any (λ other. eqb other number) (map number_in fields))))
    (sym placed.spelled)) rest in
    let P : Option ℕ → Type 0 =
    λ p. AreMarked n items (said_all said s (field ∷ fields)) (with_marks items s (with_mark s p sets) fields) in
    subst P (sym placed.is) same

-- one line more is marked
pub AreMarked-line : (n : ℕ) (items : List Item) (s : ℕ) (fields : List (List ℕ)) (lines : List StateLine)
    (sets : List (List Bool)) → AreSingle items → s < n → list_all (has_place items) fields ≡ true
    → AreMarked n items (is_said lines) sets
    → AreMarked n items (is_said (lines ++ (record { state = s; numbers = map number_in fields }) ∷ []))
    (with_marks items s sets fields)
AreMarked-line n items s fields lines sets single small known m =
    AreMarked-same n items (said_all (is_said lines) s fields)
    (is_said (lines ++ (record { state = s; numbers = map number_in fields }) ∷ [])) (with_marks items s sets fields)
    (λ number state. sym (is_said-push lines (record { state = s; numbers = map number_in fields }) number state))
    (AreMarked-marks n items s fields (is_said lines) sets single small known m)
