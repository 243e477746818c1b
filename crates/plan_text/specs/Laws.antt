-- This module defines the terms of the laws of certificates.
use Rattle.std.specs.Prelude.{◌≡◌, ℕ, List, [], ◌∷◌, ◌++◌, false, codes}
use Rattle.text_lines.specs.Text.{fields_of}
use Rattle.text_lines.specs.Laws.{HasNo, EndsInNoCr}
use Rattle.plan_text.specs.Said.{begins_with}

-- The line is whole, and it does not begin with the word of a certificate.
pub record IsPassedOverBy (word line : List ℕ) : Type 0 where
  pub one : HasNo 10 line
  pub whole : EndsInNoCr line
  pub other : begins_with word (fields_of line) ≡ false

-- The line is whole, and it is not the first line of a certificate of probabilities.
abbrev pub IsPassedOver : List ℕ → Type 0
IsPassedOver = IsPassedOverBy (codes "certificate")

-- The text has each of the lines with its ending.
abbrev pub as_lines : List (List ℕ) → List ℕ
as_lines [] = []
as_lines (line ∷ lines) = (line ++ 10 ∷ []) ++ as_lines lines
