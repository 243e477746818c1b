-- A line of a file of values is one number, or a state and a number.
use Rattle.std.specs.Prelude.{ℕ, ◌==◌, ◌&&◌, ◌||◌, ◌-◌, ◌+◌, nat_le, Bool, false, List, [], ◌∷◌, length, take, drop}
use Rattle.std.specs.Prelude.{position, slice_index, Option, Some, None, is_some, option_map, if◌then◌else◌}
use Rattle.std.specs.Float.Parse.{is_float_text}
use Rattle.text_lines.specs.Text.{fields_of, number_of}
use Rattle.text_lines.specs.Parts.{split_first}

-- 1. These definitions are about a number.

-- There are two parts, and both are whole numbers.
abbrev pub are_whole : Option (List ℕ × List ℕ) → Bool
are_whole None = false
are_whole (Some parts) = is_some (number_of parts.0) && is_some (number_of parts.1)

-- The field is two whole numbers with `/` between them.
abbrev pub is_fraction : List ℕ → Bool
is_fraction field = are_whole (split_first 47 field)

-- A number is a float as Rust reads one, or a fraction. A float is a sign or none, digits with a point or none, and an
-- exponent or none; or it is `inf`, `infinity` or `nan` in any case.
abbrev pub is_number : List ℕ → Bool
is_number field = is_float_text field || is_fraction field

-- There is one field, and it is a number.
abbrev pub is_one_number : List (List ℕ) → Bool
is_one_number [] = false
is_one_number (field ∷ []) = is_number field
is_one_number (field ∷ other ∷ fields) = false

-- The bytes have one field, which is a number.
abbrev pub is_value : List ℕ → Bool
is_value bytes = is_one_number (fields_of bytes)

-- 2. These definitions are about a state.

-- The byte is `=` or `:`.
abbrev pub is_mark : ℕ → Bool
is_mark b = b == 61 || b == 58

-- If the bytes behind the first byte have these parts around the last mark, the first byte joins the front part.
-- Otherwise the first byte may be the last mark.
abbrev pub behind_byte : ℕ → List ℕ → Option (List ℕ × List ℕ) → Option (List ℕ × List ℕ)
behind_byte b bytes (Some parts) = Some (b ∷ parts.0, parts.1)
behind_byte b bytes None = if is_mark b then Some ([], bytes) else None

-- These are the bytes before the last mark, and those behind it.
abbrev pub split_last : List ℕ → Option (List ℕ × List ℕ)
split_last [] = None
split_last (b ∷ bytes) = behind_byte b bytes (split_last bytes)

-- The bytes begin with `(` and end in `)`.
abbrev pub is_bracketed : List ℕ → Bool
is_bracketed bytes = nat_le 2 (length bytes) && slice_index bytes 0 == 40 && slice_index bytes (length bytes - 1) == 41

-- These are the bytes without the brackets around them, if there are any.
abbrev pub without_brackets : List ℕ → List ℕ
without_brackets bytes = if is_bracketed bytes then take (length bytes - 2) (drop 1 bytes) else bytes

-- This is the state that a single field names, in brackets or without.
abbrev pub one_state : List (List ℕ) → Option ℕ
one_state [] = None
one_state (field ∷ []) = number_of (without_brackets field)
one_state (field ∷ other ∷ fields) = None

-- The last of the fields ends in `)`.
abbrev pub is_closed : List (List ℕ) → Bool
is_closed [] = false
is_closed (field ∷ []) = slice_index field (length field - 1) == 41
is_closed (field ∷ other ∷ fields) = is_closed (other ∷ fields)

-- The fields are a valuation in brackets.
abbrev pub is_valuation : List (List ℕ) → Bool
is_valuation [] = false
is_valuation (field ∷ fields) = slice_index field 0 == 40 && is_closed (field ∷ fields)

-- The bytes before the number are a state, or a state, `:` and a valuation.
abbrev pub state_of_parts : List ℕ → Option (List ℕ × List ℕ) → Option ℕ
state_of_parts bytes None = one_state (fields_of bytes)
state_of_parts bytes (Some parts) = if is_valuation (fields_of parts.1) then one_state (fields_of parts.0) else None

-- This is the state that is named before the last mark, with a valuation behind a colon or without one.
abbrev pub state_before : List ℕ → Option ℕ
state_before bytes = state_of_parts bytes (split_first 58 bytes)

-- This is the state before the last mark, if one number is behind it.
abbrev pub state_with_value : Option (List ℕ × List ℕ) → Option ℕ
state_with_value None = None
state_with_value (Some parts) = if is_value parts.1 then state_before parts.0 else None

-- This is the state of a line that is a state and a number. The number is behind the last mark.
abbrev pub state_of : List ℕ → Option ℕ
state_of line = state_with_value (split_last line)

-- A line has the form of a state and a number, whatever is on both sides of the mark.
abbrev pub names_state : List ℕ → Bool
names_state line = is_some (split_last line)
