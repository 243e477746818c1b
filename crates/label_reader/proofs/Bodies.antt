-- The lines behind the header, one after another.
use Rattle.std.proofs.Common.{◌≡◌, ◌+◌, ℕ, List, ◌∷◌, Ok, Err, Result, sym, ap, subst, inr}
use Rattle.label_lines.specs.declared.kind.FileKind.{FileKind}
use Rattle.label_lines.specs.declared.faults.LabCause.{LabCause}
use Rattle.label_lines.specs.declared.faults.LabFault.{LabFault}
use Rattle.label_lines.specs.Header.{Item, and_then}
use Rattle.label_lines.specs.Lines.{StateLine, state_line, known_line, with_line, add_line}
use Rattle.game_outside.specs.Answers.{AnswersOrWants}
use Rattle.label_lines.specs.Texts.{fault_at, then_at, lines_from, made_of, IsOutOfMemory}
use Rattle.label_reader.specs.inside.Behind.{AnswersBehind}

-- a line that is added to those before it
pub record IsAdded (kind : FileKind) (n : ℕ) (items : List Item) (read : List StateLine) (line : List ℕ)
    (After : List StateLine → Type 0) : Type 0 where
  pub more : List StateLine
  pub is : add_line kind n items read line ≡ Ok more
  pub holds : After more

module _ {Y : Type 0} (kind : FileKind) (n : ℕ) (make : List Item → List StateLine → Y) (items : List Item) (number : ℕ)
    (line : List ℕ) (lines : List (List ℕ)) where
  abbrev behind : Result (List StateLine) LabCause → Result Y LabFault
  behind added = made_of (make items) (then_at number added (λ more. lines_from kind n items more (number + 1) lines))

  -- the answer behind a line that is added
  pub AnswersBehind-line : (Before After : List StateLine → Type 0) (answer : Result Y LabFault)
      → ((read : List StateLine) → Before read → IsAdded kind n items read line After)
      → AnswersBehind kind n make items After (number + 1) lines answer
      → AnswersBehind kind n make items Before number (line ∷ lines) answer
  AnswersBehind-line Before After answer step rest = λ read before.
      let added = step read before in
      let P : Result Y LabFault → Type 0 = λ said. AnswersOrWants IsOutOfMemory (λ x. x) answer said in
      subst P (sym (ap behind added.is)) (rest added.more added.holds)

  -- the answer at a line with a fault
  pub AnswersBehind-fault : (Before : List StateLine → Type 0) (cause : LabCause)
      → ((read : List StateLine) → Before read → add_line kind n items read line ≡ Err cause)
      → AnswersBehind kind n make items Before number (line ∷ lines) (Err (fault_at number cause))
  AnswersBehind-fault Before cause step = λ read before. inr (ap behind (step read before))

-- a line that is known and agrees with those before it is added
pub add_line-known : (kind : FileKind) (n : ℕ) (items : List Item) (read : List StateLine)
    (line : List ℕ) (state : StateLine) → known_line n items (state_line line) ≡ Ok state
    → add_line kind n items read line ≡ with_line kind read state
add_line-known kind n items read line state known = ap (λ r. and_then r (with_line kind read)) known

-- a line that is not known is refused
pub add_line-unknown : (kind : FileKind) (n : ℕ) (items : List Item) (read : List StateLine) (line : List ℕ)
    (cause : LabCause) → known_line n items (state_line line) ≡ Err cause → add_line kind n items read line ≡ Err cause
add_line-unknown kind n items read line cause unknown = ap (λ r. and_then r (with_line kind read)) unknown
