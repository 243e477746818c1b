-- One line further: what a row that is held gives for the answers, whatever is kept of it.
use Rattle.std.proofs.Common.{◌≡◌, ◌≢◌, ◌∙◌, ◌<◌, ◌⊎◌, inl, inr, ℕ, ◌+◌, true, false, List, [], ◌∷◌, ◌++◌, length}
use Rattle.std.proofs.Common.{Option, Some, None, Result, Ok, Err, refl, sym, ap, subst}
use Rattle.text_lines.specs.Text.{fields_of, is_nil}
use Rattle.game_model.specs.Game.{Distribution}
use Rattle.transition_lines.specs.declared.header.Header.{Header}
use Rattle.transition_lines.specs.declared.fault.TraCause.{TraCause}
use Rattle.transition_lines.specs.declared.fault.TraCause.TheVariants.{OutOfMemory, ActionClash}
use Rattle.transition_lines.specs.declared.fault.TraFault.{TraFault}
use Rattle.game_outside.specs.Answers.{AnswersOrWants}
use Rattle.transition_lines.specs.Faults.{fault_at, fault_of_all, IsOutOfMemory}
use Rattle.transition_lines.specs.Lines.{Row, row_said, header_said, behind, rows_said, clashes}
use Rattle.transition_lines.specs.Text.{lines_game, rows_game, behind_header}
use Rattle.tra_reader.specs.inside.Reading.{HasFault, IsAnswer, IsRight, Begins, TakesLine, AddsRow, RefusesLine}
use Rattle.tra_reader.specs.inside.Reading.{RefusesRow, Finishes, clash_of, at_first_line}
use Rattle.transition_lines.proofs.Rows.{said_with}

pub filled : (fields : List (List ℕ)) → fields ≢ [] → is_nil fields ≡ false
filled [] some = absurd (some refl)
filled (field ∷ fields) some = refl

-- the fault that is told is the answer
pub answer_told : {Fault : Type 0} (fault_of : Fault → Option TraFault) (fault : Fault)
    (told : TraFault) (said : Result (List (List Distribution)) TraFault) → fault_of fault ≡ Some told
    → AnswersOrWants {X = List (List Distribution)} IsOutOfMemory (λ g. g) (Err told) said
    → IsAnswer fault_of (Err fault) said
answer_told fault_of fault told said given is = λ other found.
    let P : TraFault → Type 0 =
    λ f. AnswersOrWants {X = List (List Distribution)} IsOutOfMemory (λ g. g) (Err f) said in
    subst P (same_some told other (sym given ∙ found)) is
  where
    same_some : (f g : TraFault) → Some f ≡ Some g → f ≡ g
    same_some f g e = cc

module _ {Rows : Type 0} (header_of : Rows → Header) (Holds : Rows → List Row → Type 0) where
  -- a row that is added is that of the line
  pub takes_row : (read : ℕ) (old new : Rows) (line : List ℕ) (row : Row)
      → ((rows : List Row) → Holds old rows → length rows ≡ read) → fields_of line ≢ [] → read < (header_of old).lines
      → row_said (header_of old) (fields_of line) ≡ Ok row → AddsRow header_of Holds old new row
      → TakesLine header_of Holds old new line
  takes_row read old new line row count some room said adds = (
    adds.0,
    λ rows holds.
        let P : ℕ → Type 0 = λ n. n < (header_of old).lines in
        let added = adds.1 rows holds in
        record {
          row = row;
          said = said_with (header_of old) rows (fields_of line) row false (filled (fields_of line) some)
              (subst P (sym (count rows holds)) room) said added.0;
          holds = added.1;
        },
  )

module _ {Rows Fault : Type 0} (header_of : Rows → Header) (Holds : Rows → List Row → Type 0)
    (fault_of : Fault → Option TraFault) where
  -- a row that is refused is that of the line
  pub refuses_row : (read number : ℕ) (old : Rows) (line : List ℕ) (row : Row) (fault : Fault)
      → ((rows : List Row) → Holds old rows → length rows ≡ read) → fields_of line ≢ [] → read < (header_of old).lines
      → row_said (header_of old) (fields_of line) ≡ Ok row → RefusesRow Holds fault_of old number row fault
      → RefusesLine header_of Holds fault_of old number line fault
  refuses_row read number old line row fault count some room said refuses =
      λ rows holds told is. by_cause rows (count rows holds) told (refuses rows holds told is)
    where
      by_cause : (rows : List Row) → length rows ≡ read → (told : TraFault)
          → (told ≡ fault_of_all OutOfMemory) ⊎ ((clashes rows row ≡ true) × (told ≡ clash_of number row))
          → (told ≡ fault_of_all OutOfMemory) ⊎ HasFault (header_of old) line rows number told
      by_cause rows same told (inl none) = inl none
      by_cause rows same told (inr clash) =
          let P : ℕ → Type 0 = λ n. n < (header_of old).lines in
          inr (record {
            cause = ActionClash row.transition.source row.transition.choice;
            said = said_with (header_of old) rows (fields_of line) row true (filled (fields_of line) some)
                (subst P (sym same) room) said clash.0;
            is = clash.1;
          })

  right_along : (held : Option Rows) (old : Rows) (number : ℕ) (lines : List (List ℕ))
      (answer : Result (List (List Distribution)) Fault) → held ≡ Some old
      → IsRight header_of Holds fault_of (Some old) number lines answer
      → IsRight header_of Holds fault_of held number lines answer
  right_along held old number lines answer is right =
      let P : Option Rows → Type 0 = λ h. IsRight header_of Holds fault_of h number lines answer in
      subst P (sym is) right

  right_before : (held : Option Rows) (number : ℕ) (lines : List (List ℕ))
      (answer : Result (List (List Distribution)) Fault) → held ≡ None
      → IsRight header_of Holds fault_of None number lines answer
      → IsRight header_of Holds fault_of held number lines answer
  right_before held number lines answer is right =
      let P : Option Rows → Type 0 = λ h. IsRight header_of Holds fault_of h number lines answer in
      subst P (sym is) right

  -- a line that is taken: the answer for the lines behind it is the one for all
  pub right_behind : (held : Option Rows) (number : ℕ) (old new : Rows) (line : List ℕ)
      → held ≡ Some old → TakesLine header_of Holds old new line
      → (lines : List (List ℕ)) (answer : Result (List (List Distribution)) Fault)
      → IsRight header_of Holds fault_of (Some new) (number + 1) lines answer
      → IsRight header_of Holds fault_of held number (line ∷ lines) answer
  right_behind held number old new line is takes lines answer right =
      right_along held old number (line ∷ lines) answer is (λ rows holds.
      let next = takes.1 rows holds in
      let P : Result (List (List Distribution)) TraFault → Type 0 = λ said. IsAnswer fault_of answer said in
      subst P
      (ap (λ (header : Header). rows_game header (rows_said header (number + 1) (rows ++ next.row ∷ []) lines)) takes.0
      ∙ sym (ap (λ r. rows_game (header_of old)
      (behind number r (λ row. rows_said (header_of old) (number + 1) (rows ++ row ∷ []) lines))) next.said))
      (right (rows ++ next.row ∷ []) next.holds))

  -- a line that is refused
  pub right_fault : (held : Option Rows) (number : ℕ) (old : Rows) (line : List ℕ) (fault : Fault)
      → held ≡ Some old → RefusesLine header_of Holds fault_of old number line fault → (lines : List (List ℕ))
      → IsRight header_of Holds fault_of held number (line ∷ lines) (Err fault)
  right_fault held number old line fault is refuses lines = right_along held old number (line ∷ lines) (Err fault) is
      (λ rows holds told given. by_cause rows told (refuses rows holds told given))
    where
      by_cause : (rows : List Row) (told : TraFault)
          → (told ≡ fault_of_all OutOfMemory) ⊎ HasFault (header_of old) line rows number told
          → (told ≡ fault_of_all OutOfMemory)
          ⊎ (rows_game (header_of old) (rows_said (header_of old) number rows (line ∷ lines)) ≡ Err told)
      by_cause rows told (inl none) = inl none
      by_cause rows told (inr has) =
          inr (ap (λ r. rows_game (header_of old)
          (behind number r (λ row. rows_said (header_of old) (number + 1) (rows ++ row ∷ []) lines))) has.said
          ∙ ap (λ f. Err f) (sym has.is))

  -- the line of the header
  pub right_header : (held : Option Rows) (number : ℕ) (line : List ℕ) (new : Rows)
      → held ≡ None → Begins header_of Holds line (Ok new)
      → (lines : List (List ℕ)) (answer : Result (List (List Distribution)) Fault)
      → IsRight header_of Holds fault_of (Some new) (number + 1) lines answer
      → IsRight header_of Holds fault_of held number (line ∷ lines) answer
  right_header held number line new none begins lines answer right =
      right_before held number (line ∷ lines) answer none (λ first.
      let P : ℕ → Type 0 =
      λ n. IsAnswer fault_of answer (rows_game (header_of new) (rows_said (header_of new) (n + 1) [] lines)) in
      let Q : Result (List (List Distribution)) TraFault → Type 0 = λ said. IsAnswer fault_of answer said in
      subst Q
      (sym (ap (λ r. behind_header r lines) (said_from (header_said (fields_of line)) (header_of new) begins.0)))
      (subst P first (right [] begins.1)))
    where
      said_from : (said : Result Header TraCause) (header : Header) → at_first_line said ≡ Ok header → said ≡ Ok header
      said_from (Ok h) header e = ap (λ r. by_ok r h) e
        where
          by_ok : Result Header TraFault → Header → Result Header TraCause
          by_ok (Ok g) h = Ok g
          by_ok (Err f) h = Ok h
      said_from (Err cause) header e = cc

  -- a first line that is no header
  pub right_no_header : (held : Option Rows) (number : ℕ) (line : List ℕ) (fault : Fault) (told : TraFault)
      → held ≡ None → fault_of fault ≡ Some told → Begins header_of Holds line (Err told) → (lines : List (List ℕ))
      → IsRight header_of Holds fault_of held number (line ∷ lines) (Err fault)
  right_no_header held number line fault told none given begins lines = right_before held number (line ∷ lines)
      (Err fault) none (λ first. answer_told fault_of fault told (lines_game (line ∷ lines)) given (by_cause begins))
    where
      by_header : (said : Result Header TraCause) (other : TraFault) → at_first_line said ≡ Err other
          → behind_header said lines ≡ Err other
      by_header (Ok header) other e = cc
      by_header (Err cause) other e = ap (λ r. by_err r cause) e
        where
          by_err : Result Header TraFault → TraCause → Result (List (List Distribution)) TraFault
          by_err (Err f) cause = Err f
          by_err (Ok h) cause = Err (fault_at 1 cause)

      by_cause : (told ≡ fault_of_all OutOfMemory) ⊎ (at_first_line (header_said (fields_of line)) ≡ Err told)
          → (told ≡ fault_of_all OutOfMemory) ⊎ (lines_game (line ∷ lines) ≡ Err told)
      by_cause (inl none) = inl none
      by_cause (inr said) = inr (by_header (header_said (fields_of line)) told said)

  -- the end of the text
  pub right_end : (held : Option Rows) (old : Rows) (made : Result (List (List Distribution)) TraFault)
      (answer : Result (List (List Distribution)) Fault) → held ≡ Some old
      → Finishes header_of Holds old made → ((said : Result (List (List Distribution)) TraFault)
      → AnswersOrWants {X = List (List Distribution)} IsOutOfMemory (λ g. g) made said → IsAnswer fault_of answer said)
      → (number : ℕ) → IsRight header_of Holds fault_of held number [] answer
  right_end held old made answer is finishes same number = right_along held old number [] answer is (λ rows holds.
      same (rows_game (header_of old) (rows_said (header_of old) number rows [])) (finishes number rows holds))

  -- the answer for a whole text, of which nothing was read before
  pub right_whole : (held : Option Rows) (lines : List (List ℕ)) (answer : Result (List (List Distribution)) Fault)
      → held ≡ None → IsRight header_of Holds fault_of held 1 lines answer → IsAnswer fault_of answer (lines_game lines)
  right_whole held lines answer none right =
      let P : Option Rows → Type 0 = λ h. IsRight header_of Holds fault_of h 1 lines answer in
      let before = subst P none right in
      before refl

-- where each fault is told, the answer agrees with what is said
pub given : (answer said : Result (List (List Distribution)) TraFault) → IsAnswer (λ (f : TraFault). Some f) answer said
    → AnswersOrWants {X = List (List Distribution)} IsOutOfMemory (λ g. g) answer said
given (Ok game) said is = is
given (Err fault) said is = is fault refl
