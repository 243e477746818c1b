-- A line whose state is in range and whose numbers are all known.
use Rattle.std.proofs.Common.{◌≡◌, ◌<◌, ℕ, Bool, true, false, cond, List, [], ◌∷◌, map, Option, Some, None, Ok, Err}
use Rattle.std.proofs.Common.{Result, sym, ap, ◌∙◌, refl, arith, ltb, is_some, ◌&&◌}
use Rattle.std.proofs.lemmas.Bool.{and_parts}
use Rattle.std.specs.Option.{option_and_then, unwrap_or}
use Rattle.std.specs.List.{list_all}
use Rattle.std.proofs.lemmas.Bool.Decides.{nat_tests}
use Rattle.text_lines.specs.Text.{number_of}
use Rattle.label_lines.specs.declared.faults.LabCause.{LabCause}
use Rattle.label_lines.specs.declared.faults.LabCause.TheVariants.{BadField, StateOutOfRange, UnknownIndex}
use Rattle.label_lines.specs.Header.{Item, place_of, place_in, has_place, has_index, and_then}
use Rattle.label_lines.specs.Lines.{StateLine, is_number, number_in, numbered, state_line, known_line, known_fields}

-- a field that is a number has the place of its number
pub place_in-number : (items : List Item) (spelled : Option ℕ) → is_some spelled ≡ true
    → option_and_then (place_of items) spelled ≡ place_of items (unwrap_or spelled 0)
place_in-number items None h = cc
place_in-number items (Some n) h = refl

-- fields that are numbers are known where their numbers are
pub list_all-has_place : (items : List Item) (fields : List (List ℕ)) → list_all is_number fields ≡ true
    → list_all (has_index items) (map number_in fields) ≡ list_all (has_place items) fields
list_all-has_place items [] h = refl
list_all-has_place items (field ∷ fields) h =
    let parts = and_parts (is_number field) (list_all is_number fields) h in
    ap (λ v. v && list_all (has_index items) (map number_in fields))
    (ap is_some (sym (place_in-number items (number_of field) parts.0)))
    ∙ ap (λ v. has_place items field && v) (list_all-has_place items fields parts.1)

abbrev pub line_with : ℕ → List (List ℕ) → StateLine
line_with state fields = record { state = state; numbers = map number_in fields }

below : (a b : ℕ) → a < b → ltb a b ≡ true
below a b h = grind (arith, nat_tests)

-- a line whose state is in range is known where its fields are
known_line-numbered : (n : ℕ) (items : List Item) (state : ℕ) (fields : List (List ℕ))
    → state < n → known_line n items (numbered (Some state) fields)
    ≡ and_then (known_fields items fields) (λ _. Ok (line_with state fields))
known_line-numbered n items state fields range = by (list_all is_number fields) refl
  where
    known_then : (v : Bool) → cond v (Ok (line_with state fields)) (Err UnknownIndex)
        ≡ and_then {X = Unit {0}} (cond v (Ok tt) (Err UnknownIndex)) (λ _. Ok (line_with state fields))
    known_then true = refl
    known_then false = refl

    by : (v : Bool) → v ≡ list_all is_number fields
        → known_line n items (cond v (Some (line_with state fields)) None) ≡ and_then {X = Unit {0}}
        (cond v (cond (list_all (has_place items) fields) (Ok tt) (Err UnknownIndex)) (Err BadField))
        (λ _. Ok (line_with state fields))
    by false e = refl
    by true e =
        ap (λ v. cond v (cond (list_all (has_index items) (map number_in fields)) (Ok (line_with state fields))
        (Err UnknownIndex)) (Err StateOutOfRange)) (below state n range)
        ∙ ap (λ v. cond v (Ok (line_with state fields)) (Err UnknownIndex)) (list_all-has_place items fields (sym e))
        ∙ known_then (list_all (has_place items) fields)

-- a line of a state in range is known where its fields are known
pub known_line-known : (n : ℕ) (items : List Item) (line : List ℕ) (state : ℕ) (fields : List (List ℕ))
    → state_line line ≡ numbered (Some state) fields → state < n → known_fields items fields ≡ Ok tt
    → known_line n items (state_line line) ≡ Ok (line_with state fields)
known_line-known n items line state fields is range known =
    ap (λ l. known_line n items l) is ∙ known_line-numbered n items state fields range
    ∙ ap (λ r. and_then {X = Unit {0}} r (λ _. Ok (line_with state fields))) known

-- and it has the fault that its fields have
pub known_line-fault : (n : ℕ) (items : List Item) (line : List ℕ) (state : ℕ) (fields : List (List ℕ))
    (cause : LabCause) → state_line line ≡ numbered (Some state) fields → state < n
    → known_fields items fields ≡ Err cause → known_line n items (state_line line) ≡ Err cause
known_line-fault n items line state fields cause is range fault =
    ap (λ l. known_line n items l) is ∙ known_line-numbered n items state fields range
    ∙ ap (λ r. and_then {X = Unit {0}} r (λ _. Ok (line_with state fields))) fault

-- the fields behind one that has a place
pub known_fields-place : (items : List Item) (field : List ℕ) (fields : List (List ℕ)) (place : ℕ)
    → place_in items field ≡ Some place → known_fields items (field ∷ fields) ≡ known_fields items fields
known_fields-place items field fields place h = ap (λ v. cond (v && list_all is_number fields)
    (cond (has_place items field && list_all (has_place items) fields) (Ok tt) (Err UnknownIndex)) (Err BadField))
    (number (number_of field) h) ∙ ap (λ p. cond (list_all is_number fields)
    (cond (is_some p && list_all (has_place items) fields) (Ok tt) (Err UnknownIndex)) (Err BadField)) h
  where
    number : (spelled : Option ℕ) → option_and_then (place_of items) spelled ≡ Some place → is_some spelled ≡ true
    number None e = cc
    number (Some k) e = refl

-- fields of which the first has no place
pub known_fields-no_place : (items : List Item) (field : List ℕ) (fields : List (List ℕ)) → place_in items field ≡ None
    → known_fields items (field ∷ fields) ≡ Err (cond (list_all is_number (field ∷ fields)) UnknownIndex BadField)
known_fields-no_place items field fields h = ap (λ p. cond (list_all is_number (field ∷ fields))
    (cond (is_some p && list_all (has_place items) fields) (Ok tt) (Err UnknownIndex)) (Err BadField)) h
    ∙ by (list_all is_number (field ∷ fields))
  where
    by : (v : Bool)
        → cond {A = Result (Unit {0}) LabCause} v (Err UnknownIndex) (Err BadField) ≡ Err (cond v UnknownIndex BadField)
    by true = refl
    by false = refl

-- known fields have places
pub known_fields-all : (items : List Item) (fields : List (List ℕ)) → known_fields items fields ≡ Ok tt
    → list_all (has_place items) fields ≡ true
known_fields-all items fields h = by (list_all is_number fields) (list_all (has_place items) fields) h
  where
    by : (v w : Bool)
        → cond {A = Result (Unit {0}) LabCause} v (cond w (Ok tt) (Err UnknownIndex)) (Err BadField) ≡ Ok tt → w ≡ true
    by true true g = refl
    by true false g = cc
    by false w g = cc
