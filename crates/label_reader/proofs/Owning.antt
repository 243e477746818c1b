-- Owners of states, and what the lines say.
use Rattle.std.proofs.Common.{◌≡◌, ◌<◌, ℕ, Bool, true, false, cond, List, [], ◌∷◌, ◌++◌, length, map, get_or, set, All}
use Rattle.std.proofs.Common.{Option, Some, None, Ok, Err, Result, sym, ap, ◌∙◌, refl, subst, arith, eqb, is_some, ◌&&◌}
use Rattle.std.proofs.Common.{inl, inr}
use Rattle.std.proofs.lemmas.Bool.{and_parts, eqb-true, eqb-false, ne_eqb, cases_Bool}
use Rattle.std.specs.Option.{IfSome, option_and_then, unwrap_or}
use Rattle.std.specs.List.{list_all}
use Rattle.std.proofs.lemmas.Bool.Decides.{nat_tests}
use Rattle.std.proofs.lemmas.List.{append-nil, length-set, get_or-set_same, get_or-set_other}
use Rattle.std.proofs.lemmas.List.Elements.{All-set}
use Rattle.std.proofs.lemmas.List.Folds.{list_all-append}
use Rattle.text_lines.specs.Text.{number_of}
use Rattle.label_lines.specs.declared.kind.FileKind.TheVariants.{OwnerFile}
use Rattle.label_lines.specs.declared.faults.LabCause.{LabCause}
use Rattle.label_lines.specs.declared.faults.LabCause.TheVariants.{TwoOwners}
use Rattle.label_lines.specs.Header.{Item, place_of, has_place, has_index, and_then}
use Rattle.label_lines.specs.Lines.{StateLine, number_in, said_of, all_same, with_line, known_fields}
use Rattle.label_reader.specs.inside.Owned.{first_of, first_in, owner_then, is_at, all_at, AreRead}
use Rattle.label_lines.proofs.Indexed.{place_of-within, index_at_place}
use Rattle.label_lines.proofs.KnownLines.{line_with}
use Rattle.label_reader.proofs.Marking.{placed_field}
use Rattle.label_lines.proofs.SaidOf.{said_of-push}

itself : (a : ℕ) → eqb a a ≡ true
itself a = grind (arith, nat_tests)

-- two known indices are one where their places are one
same_place : (items : List Item) (i j k m : ℕ) → place_of items i ≡ Some k
    → place_of items j ≡ Some m → eqb m k ≡ eqb j i
same_place items i j k m at_i at_j = elim (cases_Bool (eqb j i)) [
  | inl h ↦
      let one : Some m ≡ Some k = sym at_j ∙ ap (λ x. place_of items x) (eqb-true j i h) ∙ at_i in
      ap (λ x. eqb x k) (cc one) ∙ itself k ∙ sym h
  | inr h ↦
      ne_eqb m k (λ e. eqb-false j i h
      (sym (index_at_place items j m at_j) ∙ ap (λ x. get_index items x) e ∙ index_at_place items i k at_i)) ∙ sym h
]
  where
    get_index : List Item → ℕ → ℕ
    get_index is x = get_or (map (λ item. item.index) is) x 0

-- the fields that spell the index at a place are those whose number it is
pub all_at-numbers : (items : List Item) (i k : ℕ) (fields : List (List ℕ))
    → place_of items i ≡ Some k → list_all (has_place items) fields ≡ true
    → all_at items (Some k) fields ≡ list_all (λ other. eqb other i) (map number_in fields)
all_at-numbers items i k [] at known = refl
all_at-numbers items i k (field ∷ fields) at known =
    let parts = and_parts (has_place items field) (list_all (has_place items) fields) known in
    let placed = placed_field items field parts.0 in
    ap (λ p. is_at k p && all_at items (Some k) fields) placed.is
    ∙ ap (λ v. v && all_at items (Some k) fields) (same_place items i placed.number k placed.place at placed.at)
    ∙ ap (λ x. eqb x i && all_at items (Some k) fields) (sym placed.spelled)
    ∙ ap (λ v. eqb (number_in field) i && v) (all_at-numbers items i k fields at parts.1)

-- the owner of what is said so far and of a line more
pub first_of-append : (items : List Item) (before : List ℕ) (fields : List (List ℕ))
    → list_all (has_index items) before ≡ true → list_all (has_place items) fields ≡ true
    → owner_then (first_of items before) (first_in items fields) ≡ first_of items (before ++ map number_in fields)
first_of-append items [] [] b f = refl
first_of-append items [] (field ∷ fields) b f =
    let placed = placed_field items field (and_parts (has_place items field) (list_all (has_place items) fields) f).0 in
    placed.is ∙ sym placed.at ∙ ap (λ x. place_of items x) (sym placed.spelled)
first_of-append items (number ∷ before) fields b f =
    stays (place_of items number) (and_parts (has_index items number) (list_all (has_index items) before) b).0
  where
    stays : (p : Option ℕ) → is_some p ≡ true → owner_then p (first_in items fields) ≡ p
    stays None h = cc
    stays (Some k) h = refl

-- what is said is one index exactly where each field has the owner's place
pub all_same-append : (items : List Item) (before : List ℕ) (fields : List (List ℕ)) → all_same before ≡ true
    → list_all (has_index items) before ≡ true → list_all (has_place items) fields ≡ true
    → all_at items (owner_then (first_of items before) (first_in items fields)) fields
    ≡ all_same (before ++ map number_in fields)
all_same-append items [] [] one b f = refl
all_same-append items [] (field ∷ fields) one b f =
    let parts = and_parts (has_place items field) (list_all (has_place items) fields) f in
    let placed = placed_field items field parts.0 in
    ap (λ p. all_at items p (field ∷ fields)) placed.is
    ∙ all_at-numbers items placed.number placed.place (field ∷ fields) placed.at f
    ∙ ap (λ x. list_all (λ other. eqb other x) (number_in field ∷ map number_in fields)) (sym placed.spelled)
    ∙ ap (λ v. v && list_all (λ other. eqb other (number_in field)) (map number_in fields)) (itself (number_in field))
all_same-append items (number ∷ before) fields one b f =
    at_first (place_of items number) refl (and_parts (has_index items number) (list_all (has_index items) before) b).0
  where
    at_first : (p : Option ℕ) → p ≡ place_of items number → is_some p ≡ true
        → all_at items (owner_then p (first_in items fields)) fields
        ≡ list_all (λ other. eqb other number) (before ++ map number_in fields)
    at_first None e h = cc
    at_first (Some k) e h =
        all_at-numbers items number k fields (sym e) f
        ∙ sym (list_all-append (λ other. eqb other number) before (map number_in fields)
        ∙ ap (λ v. v && list_all (λ other. eqb other number) (map number_in fields)) one)

known_numbers : (items : List Item) (fields : List (List ℕ)) → list_all (has_place items) fields ≡ true
    → list_all (has_index items) (map number_in fields) ≡ true
known_numbers items [] h = refl
known_numbers items (field ∷ fields) h =
    let parts = and_parts (has_place items field) (list_all (has_place items) fields) h in
    let placed = placed_field items field parts.0 in
    ap (λ x. is_some (place_of items x) && list_all (has_index items) (map number_in fields)) placed.spelled
    ∙ ap (λ p. is_some p && list_all (has_index items) (map number_in fields)) placed.at
    ∙ known_numbers items fields parts.1

said_same : (lines : List StateLine) (s : ℕ) (fields : List (List ℕ))
    → said_of (lines ++ line_with s fields ∷ []) s ≡ said_of lines s ++ map number_in fields
said_same lines s fields =
    said_of-push lines (line_with s fields) s ∙ ap (λ v. said_of lines s ++ cond v (map number_in fields) []) (itself s)

said_other : (lines : List StateLine) (s t : ℕ) (fields : List (List ℕ)) → eqb s t ≡ false
    → said_of (lines ++ line_with s fields ∷ []) t ≡ said_of lines t
said_other lines s t fields h = said_of-push lines (line_with s fields) t
    ∙ ap (λ v. said_of lines t ++ cond v (map number_in fields) []) h ∙ append-nil (said_of lines t)

abbrev pub owner_next : List Item → List (Option ℕ) → ℕ → List (List ℕ) → Option ℕ
owner_next items owners s fields = owner_then (get_or owners s None) (first_in items fields)

first_in-within : (items : List Item) (fields : List (List ℕ)) → 0 < length items
    → unwrap_or (first_in items fields) 0 < length items
first_in-within items [] some = some
first_in-within items (field ∷ fields) some = spelled (number_of field)
  where
    placed : (p : Option ℕ) → IfSome p (λ k. k < length items) → unwrap_or p 0 < length items
    placed None h = some
    placed (Some k) h = h

    spelled : (number : Option ℕ) → unwrap_or (option_and_then (place_of items) number) 0 < length items
    spelled None = some
    spelled (Some n) = placed (place_of items n) (place_of-within items n)

-- the owner of a state more is one of the players
pub owner_next-known : (items : List Item) (owners : List (Option ℕ)) (s : ℕ) (fields : List (List ℕ))
    → s < length owners → All (λ owner. unwrap_or owner 0 < length items) owners
    → All (λ owner. unwrap_or owner 0 < length items) (set owners s (owner_next items owners s fields))
owner_next-known items owners s fields small known = All-set (λ owner. unwrap_or owner 0 < length items) owners s
    (owner_next items owners s fields) (next (get_or owners s None) (known s None small)) known
  where
    next : (named : Option ℕ) → unwrap_or named 0 < length items
        → unwrap_or (owner_then named (first_in items fields)) 0 < length items
    next None h = first_in-within items fields h
    next (Some k) h = h

-- the owner behind fields, where those before them agree
abbrev pub owner_if : Bool → List Item → ℕ → Option ℕ → List (List ℕ) → Result (Option ℕ) LabCause
owner_if agree items s owner fields = and_then (known_fields items fields)
    (λ _. cond (agree && all_at items (owner_then owner (first_in items fields)) fields)
    (Ok (owner_then owner (first_in items fields))) (Err (TwoOwners s)))

module _ (n : ℕ) (items : List Item) (s : ℕ) (fields : List (List ℕ)) (lines : List StateLine)
    (owners : List (Option ℕ)) (small : s < n) (known : list_all (has_place items) fields ≡ true)
    (m : AreRead n items lines owners) where
  -- whether the line agrees with what is said before it
  agrees : all_at items (owner_next items owners s fields) fields
      ≡ all_same (said_of (lines ++ line_with s fields ∷ []) s)
  agrees =
      ap (λ p. all_at items (owner_then p (first_in items fields)) fields) (m.first s small)
      ∙ all_same-append items (said_of lines s) fields (m.one s) (m.known s) known
      ∙ sym (ap all_same (said_same lines s fields))

  pub with_line-agrees : all_at items (owner_next items owners s fields) fields ≡ true
      → with_line OwnerFile lines (line_with s fields) ≡ Ok (lines ++ line_with s fields ∷ [])
  with_line-agrees h = ap (λ v. cond v (Ok (lines ++ line_with s fields ∷ [])) (Err (TwoOwners s))) (sym agrees ∙ h)

  pub with_line-clashes : all_at items (owner_next items owners s fields) fields ≡ false
      → with_line OwnerFile lines (line_with s fields) ≡ Err (TwoOwners s)
  with_line-clashes h = ap (λ v. cond v (Ok (lines ++ line_with s fields ∷ [])) (Err (TwoOwners s))) (sym agrees ∙ h)

  first_same : get_or (set owners s (owner_next items owners s fields)) s None
      ≡ first_of items (said_of (lines ++ line_with s fields ∷ []) s)
  first_same =
      get_or-set_same owners s (owner_next items owners s fields) None (omega (arith, m.count, small))
      ∙ ap (λ p. owner_then p (first_in items fields)) (m.first s small)
      ∙ first_of-append items (said_of lines s) fields (m.known s) known
      ∙ sym (ap (λ t. first_of items t) (said_same lines s fields))

  pub AreRead-line : all_at items (owner_next items owners s fields) fields ≡ true
      → AreRead n items (lines ++ line_with s fields ∷ []) (set owners s (owner_next items owners s fields))
  AreRead-line agreed = record {
    count = length-set owners s (owner_next items owners s fields) ∙ m.count;
    first = λ t tl. elim (cases_Bool (eqb s t)) [
      | inl h ↦
          let P : ℕ → Type 0 = λ x. get_or (set owners s (owner_next items owners s fields)) x None
          ≡ first_of items (said_of (lines ++ line_with s fields ∷ []) x) in
          subst P (eqb-true s t h) first_same
      | inr h ↦
          get_or-set_other owners s t (owner_next items owners s fields) None (λ e. eqb-false s t h (sym e))
          ∙ m.first t tl ∙ sym (ap (λ x. first_of items x) (said_other lines s t fields h))
    ];
    one = λ t. elim (cases_Bool (eqb s t)) [
      | inl h ↦
          let P : ℕ → Type 0 = λ x. all_same (said_of (lines ++ line_with s fields ∷ []) x) ≡ true in
          subst P (eqb-true s t h) (sym agrees ∙ agreed)
      | inr h ↦ ap all_same (said_other lines s t fields h) ∙ m.one t
    ];
    known = λ t. elim (cases_Bool (eqb s t)) [
      | inl h ↦
          let P : ℕ → Type 0 = λ x. list_all (has_index items) (said_of (lines ++ line_with s fields ∷ []) x) ≡ true in
          subst P (eqb-true s t h)
          (ap (λ x. list_all (has_index items) x) (said_same lines s fields)
          ∙ list_all-append (has_index items) (said_of lines s) (map number_in fields)
          ∙ ap (λ v. v && list_all (has_index items) (map number_in fields)) (m.known s)
          ∙ known_numbers items fields known)
      | inr h ↦ ap (λ x. list_all (has_index items) x) (said_other lines s t fields h) ∙ m.known t
    ];
  }
