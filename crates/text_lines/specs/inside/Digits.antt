-- This module defines digits at the front of a field.
use Rattle.std.specs.Prelude.{◌≡◌, ℕ, List, take, drop}
use Rattle.text_lines.specs.Text.{field_len, all_digits, value_onto}

-- This is the field at the front, up to the first blank.
abbrev pub front_field : List ℕ → List ℕ
front_field text = take (field_len text) text

-- These are the bytes after the field at the front.
abbrev pub behind_field : List ℕ → List ℕ
behind_field text = drop (field_len text) text

-- The text is digits of the field at the front, which spell this value, and then the rest.
pub record AreDigitsBefore (text : List ℕ) (spelled : ℕ) (rest : List ℕ) : Type 0 where
  pub digits : all_digits (front_field rest) ≡ all_digits (front_field text)
  pub value : value_onto spelled (front_field rest) ≡ value_onto 0 (front_field text)
  pub behind : behind_field rest ≡ behind_field text
