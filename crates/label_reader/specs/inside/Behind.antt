-- A reader of the lines behind a header gives these answers.
use Rattle.std.specs.Prelude.{ℕ, List, Result}
use Rattle.label_lines.specs.declared.kind.FileKind.{FileKind}
use Rattle.label_lines.specs.declared.faults.LabFault.{LabFault}
use Rattle.label_lines.specs.Header.{Item}
use Rattle.label_lines.specs.Lines.{StateLine}
use Rattle.game_outside.specs.Answers.{AnswersOrWants}
use Rattle.label_lines.specs.Texts.{lines_from, made_of, IsOutOfMemory}

-- The answer is right if the text goes on with these lines, the first of which has this number. The reader holds what
-- the lines before them say.
abbrev pub AnswersBehind : {Y : Type 0} → FileKind → ℕ → (List Item → List StateLine → Y) → List Item
    → (List StateLine → Type 0) → ℕ → List (List ℕ) → Result Y LabFault → Type 0
AnswersBehind kind n make items Holds number lines answer = (read : List StateLine) → Holds read
    → AnswersOrWants IsOutOfMemory (λ x. x) answer (made_of (make items) (lines_from kind n items read number lines))
