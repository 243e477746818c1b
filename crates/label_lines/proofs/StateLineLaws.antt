-- A line by cases is the line that the relation describes.
use Rattle.std.proofs.Common.{◌≡◌, ◌<◌, ◌+◌, inl, inr, ℕ, Bool, true, false, cond, List, [], ◌∷◌, map, Option, Some}
use Rattle.std.proofs.Common.{None, Ok, Err, Result, sym, ap, ◌∙◌, refl, subst, arith, eqb, ltb, is_some, ◌&&◌}
use Rattle.std.proofs.lemmas.Bool.{and_parts, eqb-true, cases_Bool}
use Rattle.std.specs.Option.{option_map, unwrap_or}
use Rattle.std.specs.List.{list_all}
use Rattle.std.proofs.lemmas.Bool.Decides.{nat_tests}
use Rattle.text_lines.specs.Text.{fields_of, number_of}
use Rattle.label_lines.specs.declared.faults.LabCause.{LabCause}
use Rattle.label_lines.specs.declared.faults.LabCause.TheVariants.{UnknownIndex, StateOutOfRange}
use Rattle.label_lines.specs.Header.{Item, place_of, has_index}
use Rattle.text_lines.specs.Parts.{split_first}
use Rattle.label_lines.specs.Lines.{StateLine, is_number, number_in, only_number, numbered, line_parts, state_line}
use Rattle.label_lines.specs.Lines.{known_line}
use Rattle.label_lines.specs.Denotes.{Spells, AreNumbers, IsIndex, AreIndices, IsStateLine}
use Rattle.label_lines.proofs.KnownLines.{line_with}
use Rattle.label_lines.proofs.Splits.{split_first-found, split_first-again}

below : (a b : ℕ) → ltb a b ≡ true → a < b
below a b h = grind (arith, nat_tests)

is_below : (a b : ℕ) → a < b → ltb a b ≡ true
is_below a b h = grind (arith, nat_tests)

itself : (a : ℕ) → eqb a a ≡ true
itself a = grind (arith, nat_tests)

-- numbers
spelled : (field : List ℕ) (n : Option ℕ) → n ≡ number_of field → is_some n ≡ true → Spells field (number_in field)
spelled field None e h = cc
spelled field (Some n) e h = sym e ∙ ap (λ (x : Option ℕ). Some (unwrap_or x 0)) e

pub AreNumbers-map : (fields : List (List ℕ)) → list_all is_number fields ≡ true
    → AreNumbers fields (map number_in fields)
AreNumbers-map [] h = tt
AreNumbers-map (field ∷ fields) h =
    let parts = and_parts (is_number field) (list_all is_number fields) h in
    (spelled field (number_of field) refl parts.0, AreNumbers-map fields parts.1)

pub AreNumbers-are : (fields : List (List ℕ)) (numbers : List ℕ) → AreNumbers fields numbers
    → (list_all is_number fields ≡ true) × (map number_in fields ≡ numbers)
AreNumbers-are [] [] h = (refl, refl)
AreNumbers-are [] (number ∷ numbers) h = absurd h
AreNumbers-are (field ∷ fields) [] h = absurd h
AreNumbers-are (field ∷ fields) (number ∷ numbers) h =
    let rest = AreNumbers-are fields numbers h.1 in (
      ap (λ n. is_some n && list_all is_number fields) h.0 ∙ rest.0,
      ap (λ n. unwrap_or n 0 ∷ map number_in fields) h.0 ∙ ap (λ (t : List ℕ). number ∷ t) rest.1,
    )

-- indices
some_more : (p : Option ℕ) → is_some (option_map (λ k. k + 1) p) ≡ is_some p
some_more None = refl
some_more (Some k) = refl

pub IsIndex-has : (items : List Item) (number : ℕ) → IsIndex items number → has_index items number ≡ true
IsIndex-has [] number h = absurd h
IsIndex-has (item ∷ items) number (inl h) =
    ap (λ v. is_some (cond v (Some 0) (option_map (λ k. k + 1) (place_of items number))))
    (ap (λ i. eqb i number) h ∙ itself number)
IsIndex-has (item ∷ items) number (inr h) = by (eqb item.index number) (IsIndex-has items number h)
  where
    by : (v : Bool) → is_some (place_of items number) ≡ true
        → is_some (cond v (Some 0) (option_map (λ k. k + 1) (place_of items number))) ≡ true
    by true rest = refl
    by false rest = some_more (place_of items number) ∙ rest

has_IsIndex : (items : List Item) (number : ℕ) → has_index items number ≡ true → IsIndex items number
has_IsIndex [] number h = cc
has_IsIndex (item ∷ items) number h = elim (cases_Bool (eqb item.index number)) [
  | inl e ↦ inl (eqb-true item.index number e)
  | inr e ↦ inr (has_IsIndex items number (sym (some_more (place_of items number))
      ∙ sym (ap (λ v. is_some (cond v (Some 0) (option_map (λ k. k + 1) (place_of items number)))) e) ∙ h))
]

pub AreIndices-all : (items : List Item) (numbers : List ℕ) → AreIndices items numbers
    → list_all (has_index items) numbers ≡ true
AreIndices-all items [] h = refl
AreIndices-all items (number ∷ numbers) h =
    ap (λ v. v && list_all (has_index items) numbers) (IsIndex-has items number h.0) ∙ AreIndices-all items numbers h.1

pub all-AreIndices : (items : List Item) (numbers : List ℕ) → list_all (has_index items) numbers ≡ true
    → AreIndices items numbers
all-AreIndices items [] h = tt
all-AreIndices items (number ∷ numbers) h =
    let parts = and_parts (has_index items number) (list_all (has_index items) numbers) h in
    (has_IsIndex items number parts.0, all-AreIndices items numbers parts.1)

-- a line
pub record IsAlone (fields : List (List ℕ)) (state : ℕ) : Type 0 where
  pub field : List ℕ
  pub alone : fields ≡ field ∷ []
  pub spells : Spells field state

only_number-found : (fields : List (List ℕ)) (state : ℕ) → only_number fields ≡ Some state → IsAlone fields state
only_number-found [] state h = cc
only_number-found (field ∷ []) state h = record { field = field; alone = refl; spells = h }
only_number-found (field ∷ next ∷ fields) state h = cc

some_is : {X : Type 0} (a b : X) → Some a ≡ Some b → a ≡ b
some_is a b h = cc

abbrev okay : StateLine → Result StateLine LabCause
okay line = Ok line

ok_is : (a b : StateLine) → okay a ≡ okay b → a ≡ b
ok_is a b h = cc

pub record IsLine (bytes : List ℕ) (line : StateLine) : Type 0 where
  pub front : List ℕ
  pub back : List ℕ
  pub split : split_first 58 bytes ≡ Some (front, back)
  pub alone : IsAlone (fields_of front) line.state
  pub numbers : AreNumbers (fields_of back) line.numbers

numbered-found : (bytes front back : List ℕ) (line : StateLine) (state : Option ℕ)
    → split_first 58 bytes ≡ Some (front, back) → state ≡ only_number (fields_of front)
    → numbered state (fields_of back) ≡ Some line → IsLine bytes line
numbered-found bytes front back line None split e h = cc
numbered-found bytes front back line (Some state) split e h = by (list_all is_number (fields_of back)) refl h
  where
    by : (v : Bool) → v ≡ list_all is_number (fields_of back)
        → cond v (Some (line_with state (fields_of back))) None ≡ Some line → IsLine bytes line
    by false q g = cc
    by true q g =
        let same : line_with state (fields_of back) ≡ line = some_is _ _ g in
        let P : StateLine → Type 0 = λ l. IsLine bytes l in
        subst P same (record {
          front = front;
          back = back;
          split = split;
          alone = only_number-found (fields_of front) state (sym e);
          numbers = AreNumbers-map (fields_of back) (sym q);
        })

line_parts-found : (bytes : List ℕ) (line : StateLine) (parts : Option (List ℕ × List ℕ)) → parts ≡ split_first 58 bytes
    → line_parts parts ≡ Some line → IsLine bytes line
line_parts-found bytes line None e h = cc
line_parts-found bytes line (Some parts) e h =
    numbered-found bytes parts.0 parts.1 line (only_number (fields_of parts.0)) (sym e) refl h

known-found : (n : ℕ) (items : List Item) (bytes : List ℕ) (line : StateLine) (read : Option StateLine)
    → read ≡ state_line bytes → known_line n items read ≡ Ok line → IsStateLine n items bytes line
known-found n items bytes line None e h = cc
known-found n items bytes line (Some l) e h = by (ltb l.state n) (list_all (has_index items) l.numbers) refl refl h
  where
    by : (r k : Bool) → r ≡ ltb l.state n → k ≡ list_all (has_index items) l.numbers
        → cond r (cond k (Ok l) (Err UnknownIndex)) (Err StateOutOfRange) ≡ Ok line → IsStateLine n items bytes line
    by false k p q g = cc
    by true false p q g = cc
    by true true p q g =
        let P : StateLine → Type 0 = λ x. IsStateLine n items bytes x in
        let is = line_parts-found bytes l (split_first 58 bytes) refl (sym e) in
        let split = split_first-found 58 bytes is.front is.back is.split in
        subst P (ok_is l line g) (record {
          front = is.front;
          field = is.alone.field;
          back = is.back;
          form = split.form;
          first = split.first;
          alone = is.alone.alone;
          state = is.alone.spells;
          numbers = is.numbers;
          in_range = below l.state n (sym p);
          known = all-AreIndices items l.numbers (sym q);
        })

pub known_line-found : (n : ℕ) (items : List Item) (bytes : List ℕ) (line : StateLine)
    → known_line n items (state_line bytes) ≡ Ok line → IsStateLine n items bytes line
known_line-found n items bytes line h = known-found n items bytes line (state_line bytes) refl h

abbrev line_of : ℕ → List ℕ → StateLine
line_of state numbers = record { state = state; numbers = numbers }

pub known_line-again : (n : ℕ) (items : List Item) (bytes : List ℕ) (line : StateLine) → IsStateLine n items bytes line
    → known_line n items (state_line bytes) ≡ Ok line
known_line-again n items bytes line is =
    let numbers = AreNumbers-are (fields_of is.back) line.numbers is.numbers in
    ap (λ t. known_line n items (line_parts (split_first 58 t))) is.form
    ∙ ap (λ p. known_line n items (line_parts p)) (split_first-again 58 is.front is.back is.first)
    ∙ ap (λ fs. known_line n items (numbered (only_number fs) (fields_of is.back))) is.alone
    ∙ ap (λ s. known_line n items (numbered s (fields_of is.back))) is.state
    ∙ ap (λ v. known_line n items (cond v (Some (line_with line.state (fields_of is.back))) None)) numbers.0
    ∙ ap (λ ns. known_line n items (Some (line_of line.state ns))) numbers.1
    ∙ ap (λ v. cond v (cond (list_all (has_index items) line.numbers) (Ok line) (Err UnknownIndex))
    (Err StateOutOfRange)) (is_below line.state n is.in_range)
    ∙ ap (λ v. cond v (Ok line) (Err UnknownIndex)) (AreIndices-all items line.numbers is.known)
