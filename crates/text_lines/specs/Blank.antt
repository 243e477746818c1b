-- This module defines blank lines, and what is right for a text when blank lines come before its next lines.
use Rattle.std.specs.Prelude.{◌≡◌, ℕ, List, [], ◌∷◌, ◌++◌, length}
use Rattle.text_lines.specs.Text.{fields_of, significant}

-- None of these lines has a field.
abbrev pub AreBlank : List (List ℕ) → Type 0
AreBlank [] = Unit {0}
AreBlank (line ∷ lines) = (fields_of line ≡ []) × AreBlank lines

-- This is true of the lines that count if `count` blank lines come before these lines.
abbrev pub BehindBlanks : ℕ → List (List ℕ) → (List (List ℕ) → Type 0) → Type 0
BehindBlanks count lines Holds = (blanks : List (List ℕ)) → AreBlank blanks → length blanks ≡ count
    → Holds (significant (blanks ++ lines))

-- This answer is right if these lines are still to come: `blanks` blank lines wait before them, and `answers` tells
-- what is right for a reader whose next line has the number `next`.
abbrev pub IsRightFor : {S A : Type 0} → (S → ℕ → List (List ℕ) → A → Type 0) → S → ℕ → ℕ → List (List ℕ) → A → Type 0
IsRightFor answers reader next blanks lines answer = BehindBlanks blanks lines (λ more. answers reader next more answer)
