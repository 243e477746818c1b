-- This module defines how texts spell numbers: decimals with an optional point and exponent, and quotients.
use Rattle.std.specs.Prelude.{◌≡◌, ◌≢◌, ℕ, ◌+◌, ◌==◌, ◌||◌, ◌⊎◌, nat_lt, Bool, true, false, List, [], ◌∷◌, ◌++◌}
use Rattle.std.specs.Prelude.{length, take, drop, Option, Some, None, option_map, if◌then◌else◌}
use Rattle.text_lines.specs.Text.{is_digit, all_digits, is_nil, value_onto}
use Rattle.numerals.specs.Limits.{most_digits, most_exponent, most_exponent_digits}

-- An exponent has a sign, which says whether it is below zero, and digits.
pub record Exponent : Type 0 where
  pub below : Bool
  pub digits : List ℕ

-- This is the exponent if none is written.
abbrev pub no_exponent : Exponent
no_exponent = record { below = false; digits = [] }

-- A spelling is a number that is taken apart: the digits before and after the point and the exponent, or the digits
-- above and below the line.
pub data Spelling : Type 0 where
  Decimal : (front back : List ℕ) (exponent : Exponent) → Spelling
  Quotient : (above below : List ℕ) → Spelling

-- 1. These definitions are the grammar.

-- There are one or more digits.
abbrev pub AreDigits : List ℕ → Type 0
AreDigits digits = (digits ≢ []) × (all_digits digits ≡ true)

-- The text is empty, or it is a point and zero or more digits.
abbrev pub SpellsBack : List ℕ → List ℕ → Type 0
SpellsBack text back = ((text ≡ []) × (back ≡ [])) ⊎ ((text ≡ 46 ∷ back) × (all_digits back ≡ true))

-- The sign is nothing, plus or minus.
abbrev pub SpellsSign : List ℕ → Bool → Type 0
SpellsSign sign below = ((sign ≡ []) × (below ≡ false))
    ⊎ (((sign ≡ 43 ∷ []) × (below ≡ false)) ⊎ ((sign ≡ 45 ∷ []) × (below ≡ true)))

-- The text is an `e` or `E`, a sign and digits.
pub record SpellsPower (text : List ℕ) (exponent : Exponent) : Type 0 where
  pub letter : ℕ
  pub sign : List ℕ
  pub parts : text ≡ letter ∷ sign ++ exponent.digits
  pub marked : (letter ≡ 101) ⊎ (letter ≡ 69)
  pub signed : SpellsSign sign exponent.below
  pub digits : AreDigits exponent.digits

-- The text is empty, or it is a power of ten.
abbrev pub SpellsExponent : List ℕ → Exponent → Type 0
SpellsExponent text exponent = ((text ≡ []) × (exponent ≡ no_exponent)) ⊎ SpellsPower text exponent

-- The text is a decimal: one or more digits, then a point and any digits or neither, then an exponent or none.
pub record SpellsDecimal (text front back : List ℕ) (exponent : Exponent) : Type 0 where
  pub middle : List ℕ
  pub end : List ℕ
  pub parts : text ≡ front ++ (middle ++ end)
  pub digits : AreDigits front
  pub point : SpellsBack middle back
  pub power : SpellsExponent end exponent

-- The text is a fraction: digits, the line `/`, and digits.
pub record SpellsQuotient (text above below : List ℕ) : Type 0 where
  pub parts : text ≡ above ++ 47 ∷ below
  pub numerator : AreDigits above
  pub denominator : AreDigits below

-- The text has this spelling.
abbrev pub Spells : List ℕ → Spelling → Type 0
Spells text (Decimal front back exponent) = SpellsDecimal text front back exponent
Spells text (Quotient above below) = SpellsQuotient text above below

-- The number has more digits than may be read, or an exponent of too many digits or too far from 0.
abbrev pub is_long : Spelling → Bool
is_long (Decimal front back exponent) = nat_lt most_digits (length front + length back)
    || (nat_lt most_exponent_digits (length exponent.digits) || nat_lt most_exponent (value_onto 0 exponent.digits))
is_long (Quotient above below) = nat_lt most_digits (length above) || nat_lt most_digits (length below)

-- 2. These definitions give the spelling of a text, by cases.

-- This is the number of digits at the front.
abbrev pub digits_len : List ℕ → ℕ
digits_len [] = 0
digits_len (b ∷ bytes) = if is_digit b then digits_len bytes + 1 else 0

-- These are the digits at the front.
abbrev pub leading_digits : List ℕ → List ℕ
leading_digits text = take (digits_len text) text

-- These are the bytes after the digits at the front.
abbrev pub behind_digits : List ℕ → List ℕ
behind_digits text = drop (digits_len text) text

-- This is the exponent of this sign, if the rest of the text is one or more digits.
abbrev pub exponent_digits : Bool → List ℕ → Option Exponent
exponent_digits below [] = None
exponent_digits below (b ∷ bytes) = if all_digits (b ∷ bytes) then Some
    (record { below = below; digits = b ∷ bytes }) else None

-- After an `e` come a sign or none, and digits.
abbrev pub exponent_of : List ℕ → Option Exponent
exponent_of [] = None
exponent_of (b ∷ bytes) = if b == 45 then exponent_digits true bytes else
    (if b == 43 then exponent_digits false bytes else exponent_digits false (b ∷ bytes))

-- After the digits of a decimal comes nothing, or an exponent.
abbrev pub decimal_of : List ℕ → List ℕ → List ℕ → Option Spelling
decimal_of front back [] = Some (Decimal front back no_exponent)
decimal_of front back (b ∷ bytes) = if b == 101 || b ==
    69 then option_map (Decimal front back) (exponent_of bytes) else None

-- After the line of a fraction come digits.
abbrev pub quotient_of : List ℕ → List ℕ → Option Spelling
quotient_of above [] = None
quotient_of above (b ∷ bytes) = if all_digits (b ∷ bytes) then Some (Quotient above (b ∷ bytes)) else None

-- After the first digits comes the rest of a decimal or of a fraction.
abbrev pub behind_front : List ℕ → List ℕ → Option Spelling
behind_front front [] = decimal_of front [] []
behind_front front (b ∷ bytes) = if b ==
    46 then decimal_of front (leading_digits bytes) (behind_digits bytes) else
    (if b == 47 then quotient_of front bytes else decimal_of front [] (b ∷ bytes))

-- This is the spelling of a text as a decimal or as a fraction, if it has one.
abbrev pub spelling_of : List ℕ → Option Spelling
spelling_of text = if is_nil (leading_digits text) then None else behind_front (leading_digits text)
    (behind_digits text)
