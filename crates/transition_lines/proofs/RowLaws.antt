-- A row that is read is one that its line says, and the other way round.
use Rattle.std.proofs.Common.{◌≡◌, ◌∙◌, ◌<◌, ◌≤◌, inl, inr, ℕ, ◌+◌, false, cond, List, [], ◌∷◌, ◌++◌, length, Option}
use Rattle.std.proofs.Common.{Some, None, Result, Ok, Err, refl, sym, ap, ap₂, subst, arith, nat_lt, append_assoc}
use Rattle.std.proofs.lemmas.List.{length_push}
use Rattle.std.proofs.lemmas.Bool.{le-ltb, lt-ltb, ltb-false, ltb-true}
use Rattle.text_lines.specs.Text.{fields_of, is_nil}
use Rattle.fractions.specs.declared.number.NumberFault.{NumberFault}
use Rattle.fractions.specs.Fraction.{Fraction}
use Rattle.fractions.specs.Number.{DenotesNumber, number_said}
use Rattle.transition_lines.specs.Limits.{most_stated_choices}
use Rattle.transition_lines.specs.declared.header.Header.{Header}
use Rattle.transition_lines.specs.declared.line.Transition.{Transition}
use Rattle.transition_lines.specs.declared.fault.TraCause.{TraCause}
use Rattle.transition_lines.specs.declared.fault.TraCause.TheVariants.{StateOutOfRange, OverLimit, LineCount}
use Rattle.transition_lines.specs.declared.fault.TraCause.TheVariants.{ActionClash}
use Rattle.transition_lines.specs.Faults.{fault_of_all}
use Rattle.transition_lines.specs.Lines.{Row, LineParts, IsRow, AreRows, line_parts, transition_with, transition_within}
use Rattle.transition_lines.specs.Lines.{transition_said, row_with, parts_said, row_said, clashes, action_checked}
use Rattle.transition_lines.specs.Lines.{line_said}
use Rattle.transition_lines.specs.Lines.{behind, rows_said}
use Rattle.transition_lines.proofs.Rows.{said_with}
use Rattle.numerals.proofs.Grammar.{chosen}

-- what a number's text says is what it denotes
abbrev pub NumbersFound : Type 0
NumbersFound = (text : List ℕ) (f : Fraction) → number_said text ≡ Ok f → DenotesNumber text f

abbrev pub NumbersAgain : Type 0
NumbersAgain = (text : List ℕ) (f : Fraction) → DenotesNumber text f → number_said text ≡ Ok f

-- numbers that a transition has
record HasNumbers (n i k j : ℕ) (share : Result Fraction NumberFault) (t : Transition) : Type 0 where
  source : i ≡ t.source
  choice : k ≡ t.choice
  destination : j ≡ t.destination
  is : share ≡ Ok t.share
  source_in : i < n
  choice_in : k < most_stated_choices
  destination_in : j < n

with_found : (i k j : ℕ) (share : Result Fraction NumberFault) (t : Transition) → transition_with i k j share ≡ Ok t
    → (i ≡ t.source) × (k ≡ t.choice) × (j ≡ t.destination) × (share ≡ Ok t.share)
with_found i k j (Err fault) t e = cc
with_found i k j (Ok f) t e =
    let same : record { source = i; choice = k; destination = j; share = f } ≡ t = cc in (
      ap (λ (u : Transition). u.source) same,
      ap (λ (u : Transition). u.choice) same,
      ap (λ (u : Transition). u.destination) same,
      ap (λ (u : Transition). Ok u.share) same,
    )

within_found : (n i k j : ℕ) (share : Result Fraction NumberFault) (t : Transition)
    → transition_within n i k j share ≡ Ok t → HasNumbers n i k j share t
within_found n i k j share t e =
    let destination = cond (nat_lt j n) (transition_with i k j share) (Err StateOutOfRange) in
    let choice = cond (nat_lt k most_stated_choices) destination (Err OverLimit) in
    elim (chosen (nat_lt i n) choice (Err StateOutOfRange) (Ok t) e) [
      | inr out ↦ cc out.1
      | inl source ↦
          elim (chosen (nat_lt k most_stated_choices) destination (Err OverLimit) (Ok t) source.1) [
            | inr out ↦ cc out.1
            | inl low ↦
                elim (chosen (nat_lt j n) (transition_with i k j share) (Err StateOutOfRange) (Ok t) low.1) [
                  | inr out ↦ cc out.1
                  | inl inside ↦
                      let is = with_found i k j share t inside.1 in
                      record {
                        source = is.0;
                        choice = is.1;
                        destination = is.2;
                        is = is.3;
                        source_in = ltb-true i n source.0;
                        choice_in = ltb-true k most_stated_choices low.0;
                        destination_in = ltb-true j n inside.0;
                      }
                ]
          ]
    ]

within_again : (n i k j : ℕ) (share : Result Fraction NumberFault) → i < n → k < most_stated_choices → j < n
    → transition_within n i k j share ≡ transition_with i k j share
within_again n i k j share source low inside =
    ap (λ b. cond b (cond (nat_lt k most_stated_choices)
    (cond (nat_lt j n) (transition_with i k j share) (Err StateOutOfRange)) (Err OverLimit)) (Err StateOutOfRange))
    (lt-ltb i n source)
    ∙ ap (λ b. cond b (cond (nat_lt j n) (transition_with i k j share) (Err StateOutOfRange)) (Err OverLimit))
    (lt-ltb k most_stated_choices low)
    ∙ ap (λ b. cond b (transition_with i k j share) (Err StateOutOfRange)) (lt-ltb j n inside)

-- the parts of a row
record HasParts (n : ℕ) (parts : LineParts) (row : Row) : Type 0 where
  source : parts.source ≡ Some row.transition.source
  choice : parts.choice ≡ Some row.transition.choice
  destination : parts.destination ≡ Some row.transition.destination
  share : number_said parts.probability ≡ Ok row.transition.share
  action : parts.action ≡ row.action
  source_in : row.transition.source < n
  choice_in : row.transition.choice < most_stated_choices
  destination_in : row.transition.destination < n

numbers_found : (n : ℕ) (x y z : Option ℕ) (share : Result Fraction NumberFault) (t : Transition)
    → transition_said n x y z share ≡ Ok t → (x ≡ Some t.source) × (y ≡ Some t.choice) × (z ≡ Some t.destination)
    × (share ≡ Ok t.share) × (t.source < n) × (t.choice < most_stated_choices) × (t.destination < n)
numbers_found n None y z share t e = cc
numbers_found n (Some i) None z share t e = cc
numbers_found n (Some i) (Some k) None share t e = cc
numbers_found n (Some i) (Some k) (Some j) share t e =
    let is = within_found n i k j share t e in (
      ap (λ a. Some a) is.source,
      ap (λ a. Some a) is.choice,
      ap (λ a. Some a) is.destination,
      is.is,
      omega (arith, is.source, is.source_in),
      omega (arith, is.choice, is.choice_in),
      omega (arith, is.destination, is.destination_in),
    )

parts_found : (n : ℕ) (parts : LineParts) (said : Result Transition TraCause) (row : Row)
    → transition_said n parts.source parts.choice parts.destination (number_said parts.probability) ≡ said
    → row_with parts.action said ≡ Ok row → HasParts n parts row
parts_found n parts (Err cause) row is e = cc
parts_found n parts (Ok t) row is e =
    let same : record { transition = t; action = parts.action } ≡ row = cc in
    let P : Row → Type 0 = λ r. HasParts n parts r in
    let numbers = numbers_found n parts.source parts.choice parts.destination (number_said parts.probability) t is in
    subst P same (record {
      source = numbers.0;
      choice = numbers.1;
      destination = numbers.2;
      share = numbers.3;
      action = refl;
      source_in = numbers.4;
      choice_in = numbers.5;
      destination_in = numbers.6;
    })

pub row_found : NumbersFound → (header : Header) (line : List ℕ) (row : Row) → row_said header (fields_of line) ≡ Ok row
    → IsRow header line row
row_found found header line row e = by_parts (line_parts header.choices (fields_of line)) refl e
  where
    by_parts : (parts : Option LineParts) → line_parts header.choices (fields_of line) ≡ parts
        → parts_said header.states parts ≡ Ok row → IsRow header line row
    by_parts None is e = cc
    by_parts (Some parts) is e =
        let has = parts_found header.states parts (transition_said header.states parts.source parts.choice
        parts.destination (number_said parts.probability)) row refl e in
        record {
          probability = parts.probability;
          parts = is ∙ same_parts parts row has;
          share = found parts.probability row.transition.share has.share;
          source_in = has.source_in;
          choice_in = has.choice_in;
          destination_in = has.destination_in;
        }
      where
        same_parts : (parts : LineParts) (row : Row) → HasParts header.states parts row
            → Some parts ≡ Some (record {
              source = Some row.transition.source;
              choice = Some row.transition.choice;
              destination = Some row.transition.destination;
              probability = parts.probability;
              action = row.action;
            })
        same_parts parts row has =
            ap (λ x. Some (record {
              source = x;
              choice = parts.choice;
              destination = parts.destination;
              probability = parts.probability;
              action = parts.action;
            })) has.source
            ∙ ap (λ x. Some (record {
              source = Some row.transition.source;
              choice = x;
              destination = parts.destination;
              probability = parts.probability;
              action = parts.action;
            })) has.choice
            ∙ ap₂ (λ x a. Some (record {
              source = Some row.transition.source;
              choice = Some row.transition.choice;
              destination = x;
              probability = parts.probability;
              action = a;
            })) has.destination has.action

pub row_again : NumbersAgain → (header : Header) (line : List ℕ) (row : Row) → IsRow header line row
    → row_said header (fields_of line) ≡ Ok row
row_again again header line row is =
    ap (λ parts. parts_said header.states parts) is.parts
    ∙ ap (λ r. row_with row.action r) (
    within_again header.states row.transition.source row.transition.choice row.transition.destination
    (number_said is.probability) is.source_in is.choice_in is.destination_in
    ∙ ap (λ share. transition_with row.transition.source row.transition.choice row.transition.destination share)
    (again is.probability row.transition.share is.share)
    )

-- no row clashes with those before it
abbrev pub NoClash : List Row → List Row → Type 0
NoClash before [] = Unit {0}
NoClash before (row ∷ rows) = (clashes before row ≡ false) × NoClash (before ++ row ∷ []) rows

-- rows behind others
pub record Follow (header : Header) (before : List Row) (lines : List (List ℕ)) (all : List Row) : Type 0 where
  pub rows : List Row
  pub whole : all ≡ before ++ rows
  pub are : AreRows header lines rows
  pub size : length before + length lines ≡ header.lines
  pub fine : NoClash before rows

record Said (header : Header) (before : List Row) (fields : List (List ℕ)) (row : Row) : Type 0 where
  is : row_said header fields ≡ Ok row
  room : length before < header.lines
  fine : clashes before row ≡ false

action_found : (before : List Row) (said : Result Row TraCause) (row : Row) → action_checked before said ≡ Ok row
    → (said ≡ Ok row) × (clashes before row ≡ false)
action_found before (Err cause) row e = cc
action_found before (Ok r) row e =
    elim (chosen (clashes before r) (Err (ActionClash r.transition.source r.transition.choice)) (Ok r) (Ok row) e) [
      | inl clash ↦ cc clash.1
      | inr fine ↦
          let same : r ≡ row = cc fine.1 in
          let P : Row → Type 0 = λ x. clashes before x ≡ false in
          (fine.1, subst P same fine.0)
    ]

said_found : (header : Header) (before : List Row) (fields : List (List ℕ)) (row : Row)
    → line_said header before fields ≡ Ok row → Said header before fields row
said_found header before [] row e = cc
said_found header before (f ∷ fields) row e =
    elim (chosen (nat_lt (length before) header.lines) (action_checked before (row_said header (f ∷ fields)))
    (Err (LineCount (header.lines + 1) header.lines)) (Ok row) e) [
      | inr past ↦ cc past.1
      | inl room ↦
          let is = action_found before (row_said header (f ∷ fields)) row room.1 in
          record { is = is.0; room = ltb-true (length before) header.lines room.0; fine = is.1 }
    ]

pub rows_found : NumbersFound
    → (header : Header) (number : ℕ) (before : List Row) (lines : List (List ℕ)) (all : List Row)
    → length before ≤ header.lines → rows_said header number before lines ≡ Ok all → Follow header before lines all
rows_found found header number before [] all le e =
    elim (chosen (nat_lt (length before) header.lines) (Err (fault_of_all (LineCount (length before) header.lines)))
    (Ok before) (Ok all) e) [
      | inl few ↦ cc few.1
      | inr enough ↦
          let same : before ≡ all = cc enough.1 in
          record {
            rows = [];
            whole = sym same ∙ sym (append_none before);
            are = tt;
            size = omega (arith, le, ltb-false (length before) header.lines enough.0);
            fine = tt;
          }
    ]
  where
    append_none : (rows : List Row) → rows ++ [] ≡ rows
    append_none [] = refl
    append_none (r ∷ rows) = ap (λ rs. r ∷ rs) (append_none rows)
rows_found found header number before (line ∷ lines) all le e =
    by_row (line_said header before (fields_of line)) refl e (λ row room more. rows_found found header (number + 1)
    (before ++ row ∷ []) lines all (omega (arith, room, length_push before row)) more)
  where
    by_row : (said : Result Row TraCause) → line_said header before (fields_of line) ≡ said
        → behind number said (λ row. rows_said header (number + 1) (before ++ row ∷ []) lines) ≡ Ok all
        → ((row : Row) → length before < header.lines → rows_said header (number + 1) (before ++ row ∷ []) lines
        ≡ Ok all → Follow header (before ++ row ∷ []) lines all) → Follow header before (line ∷ lines) all
    by_row (Err cause) is e more = cc
    by_row (Ok row) is e more =
        let said = said_found header before (fields_of line) row is in
        let follow = more row said.room e in
        record {
          rows = row ∷ follow.rows;
          whole = follow.whole ∙ append_assoc before (row ∷ []) follow.rows;
          are = (row_found found header line row said.is, follow.are);
          size = omega (arith, follow.size, length_push before row);
          fine = (said.fine, follow.fine);
        }

row_filled : (header : Header) (fields : List (List ℕ)) (row : Row) → row_said header fields ≡ Ok row
    → is_nil fields ≡ false
row_filled header [] row e = by_kind header.choices e
  where
    by_kind : (choices : Option ℕ) → parts_said header.states (line_parts choices []) ≡ Ok row
        → is_nil {X = List ℕ} [] ≡ false
    by_kind None e = cc
    by_kind (Some c) e = cc
row_filled header (f ∷ fields) row e = refl

pub rows_again : NumbersAgain → (header : Header) (number : ℕ) (before : List Row) (lines : List (List ℕ))
    (rows : List Row) → length before + length lines ≡ header.lines → AreRows header lines rows → NoClash before rows
    → rows_said header number before lines ≡ Ok (before ++ rows)
rows_again again header number before [] [] size are fine =
    ap (λ b. cond b (Err (fault_of_all (LineCount (length before) header.lines))) (Ok before))
    (le-ltb (length before) header.lines (omega (arith, size))) ∙ ap (λ rs. Ok rs) (sym (append_none before))
  where
    append_none : (rows : List Row) → rows ++ [] ≡ rows
    append_none [] = refl
    append_none (r ∷ rows) = ap (λ rs. r ∷ rs) (append_none rows)
rows_again again header number before [] (row ∷ rows) size are fine = absurd are
rows_again again header number before (line ∷ lines) [] size are fine = absurd are
rows_again again header number before (line ∷ lines) (row ∷ rows) size are fine =
    let is = row_again again header line row are.0 in
    let said : line_said header before (fields_of line) ≡ Ok row = said_with header before (fields_of line) row false
    (row_filled header (fields_of line) row is) (omega (arith, size)) is fine.0 in
    ap (λ r. behind number r (λ x. rows_said header (number + 1) (before ++ x ∷ []) lines)) said
    ∙ rows_again again header (number + 1) (before ++ row ∷ []) lines rows
    (omega (arith, size, length_push before row)) are.1 fine.1
    ∙ ap (λ rs. Ok rs) (append_assoc before (row ∷ []) rows)
