-- This module defines numbers at the front of a line.
use Rattle.std.specs.Prelude.{◌≡◌, ℕ, List, ◌∷◌, Option, option_map}
use Rattle.text_lines.specs.Text.{fields_of, number_of, saturated}

-- The first field spells this number, or the greatest number of 64 bits if it is greater, or no number. The other
-- fields are in the rest.
pub record BeginsWithNumber (line : List ℕ) (spelled : Option ℕ) (rest : List ℕ) : Type 0 where
  pub field : List ℕ
  pub fields : fields_of line ≡ field ∷ fields_of rest
  pub number : spelled ≡ option_map saturated (number_of field)
