-- This module defines texts as lines, lines as fields, and fields as whole numbers.
use Rattle.std.specs.Prelude.{ℕ, ◌+◌, ◌-◌, ◌*◌, ◌^◌, ◌==◌, ◌&&◌, ◌||◌, nat_le, min, Bool, true, false, List, [], ◌∷◌}
use Rattle.std.specs.Prelude.{◌++◌, Option, Some, None, if◌then◌else◌}

-- The bytes are put in front of the first of these lines.
abbrev pub prepend : List ℕ → List (List ℕ) → List (List ℕ)
prepend bytes [] = bytes ∷ []
prepend bytes (line ∷ lines) = (bytes ++ line) ∷ lines

-- The first byte is a line feed.
abbrev pub begins_lf : List ℕ → Bool
begins_lf [] = false
begins_lf (b ∷ bytes) = b == 10

-- These are the lines of a text. Each ends in LF or CRLF, or at the end of the text, and after the last ending no line
-- begins.
abbrev pub lines_of : List ℕ → List (List ℕ)
lines_of [] = []
lines_of (b ∷ bytes) = if b == 10 then [] ∷ lines_of bytes else
    (if b == 13 && begins_lf bytes then lines_of bytes else prepend (b ∷ []) (lines_of bytes))

-- A blank is a space or a tab. Blanks part the fields of a line.
abbrev pub is_blank : ℕ → Bool
is_blank b = b == 32 || b == 9

-- A field ends at the end of the line, or before a blank.
abbrev pub ends_field : List ℕ → Bool
ends_field [] = true
ends_field (b ∷ bytes) = is_blank b

-- These are the fields of a line: the bytes between spaces and tabs.
abbrev pub fields_of : List ℕ → List (List ℕ)
fields_of [] = []
fields_of (b ∷ bytes) = if is_blank b then fields_of bytes else
    (if ends_field bytes then (b ∷ []) ∷ fields_of bytes else prepend (b ∷ []) (fields_of bytes))

-- A digit is a byte from `0` to `9`.
abbrev pub is_digit : ℕ → Bool
is_digit b = nat_le 48 b && nat_le b 57

-- All bytes are digits.
abbrev pub all_digits : List ℕ → Bool
all_digits [] = true
all_digits (b ∷ bytes) = is_digit b && all_digits bytes

-- The list is empty.
abbrev pub is_nil : {X : Type 0} → List X → Bool
is_nil [] = true
is_nil (x ∷ xs) = false

-- A line is kept if it is not blank, or if lines follow it.
abbrev pub keep_line : List ℕ → List (List ℕ) → List (List ℕ)
keep_line line [] = if is_nil (fields_of line) then [] else line ∷ []
keep_line line (next ∷ lines) = line ∷ next ∷ lines

-- These are the lines up to the last that is not blank.
abbrev pub significant : List (List ℕ) → List (List ℕ)
significant [] = []
significant (line ∷ lines) = keep_line line (significant lines)

-- This is the number whose digits are those of n and then these.
abbrev pub value_onto : ℕ → List ℕ → ℕ
value_onto n [] = n
value_onto n (b ∷ bytes) = value_onto (10 * n + (b - 48)) bytes

-- This is the whole number that a field spells. It has one or more digits, however many.
abbrev pub number_of : List ℕ → Option ℕ
number_of [] = None
number_of (b ∷ bytes) = if all_digits (b ∷ bytes) then Some (value_onto 0 (b ∷ bytes)) else None

-- This is the length of the field at the front.
abbrev pub field_len : List ℕ → ℕ
field_len [] = 0
field_len (b ∷ bytes) = if is_blank b then 0 else field_len bytes + 1

-- These are the bytes after the blanks at the front.
abbrev pub skip_blanks : List ℕ → List ℕ
skip_blanks [] = []
skip_blanks (b ∷ bytes) = if is_blank b then skip_blanks bytes else b ∷ bytes

-- This is a number, or the greatest number of 64 bits if it is greater.
abbrev pub saturated : ℕ → ℕ
saturated n = min n (2 ^ 64 - 1)
