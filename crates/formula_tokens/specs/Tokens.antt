-- A text has tokens: words, numbers, quoted names and signs, each as long as it goes on, with blanks between them.
use Rattle.std.specs.Prelude.{ℕ, zero, suc, ◌+◌, ◌-◌, ◌==◌, ◌&&◌, ◌||◌, nat_le, nat_lt, Bool, List, [], ◌∷◌, length}
use Rattle.std.specs.Prelude.{take, if◌then◌else◌}
use Rattle.text_lines.specs.Text.{is_digit, begins_lf}
use Rattle.formula_tokens.specs.declared.fault.FormulaFault.{FormulaFault}
use Rattle.formula_tokens.specs.declared.fault.FormulaCause.TheVariants.{End, Unexpected}
use Rattle.formula_tokens.specs.declared.front.Front.{Front}
use Rattle.formula_tokens.specs.declared.front.Front.TheVariants.{Blank, Spelling, Unclosed, Strange}
use Rattle.formula_tokens.specs.Fault.{fault_at}
use Rattle.formula_tokens.specs.Limits.{longest_name}

-- These definitions are about bytes.

-- The byte is from `A` to `Z` or from `a` to `z`.
abbrev pub is_letter : ℕ → Bool
is_letter b = (nat_le 65 b && nat_le b 90) || (nat_le 97 b && nat_le b 122)

-- The byte is a letter or `_`.
abbrev pub begins_word : ℕ → Bool
begins_word b = is_letter b || b == 95

-- The byte is a letter, a digit or `_`.
abbrev pub in_word : ℕ → Bool
in_word b = begins_word b || is_digit b

-- The byte is a letter, a digit, `.` or `/`, or it is `+` or `-` directly after `e` or `E`.
abbrev pub in_number : ℕ → ℕ → Bool
in_number before b = is_letter b || is_digit b || b == 46 || b ==
    47 || ((b == 43 || b == 45) && (before == 101 || before == 69))

-- The byte is from `!` to `~`.
abbrev pub in_name : ℕ → Bool
in_name b = nat_le 33 b && nat_le b 126

-- The bytes are `<<`, `<=`, `>>`, `>=`, `=>` or `=?`.
abbrev pub is_long_sign : ℕ → ℕ → Bool
is_long_sign b c = (b == 60 && (c == 60 || c == 61)) || (b == 62 && (c == 62 || c == 61))
    || (b == 61 && (c == 62 || c == 63))

-- The byte is `<`, `>`, `,`, `[`, `]`, `(`, `)`, `{`, `}`, `!`, `&` or `|`.
abbrev pub is_short_sign : ℕ → Bool
is_short_sign b = b == 60 || b == 62 || b == 44 || b == 91 || b == 93 || b == 40 || b == 41 || b == 123 || b == 125
    || b == 33 || b == 38 || b == 124

-- These definitions are about the front of a text.

-- A word goes on for this many bytes.
abbrev pub word_length : List ℕ → ℕ
word_length [] = 0
word_length (b ∷ bytes) = if in_word b then word_length bytes + 1 else 0

-- A number goes on for this many bytes behind this byte.
abbrev pub number_length : ℕ → List ℕ → ℕ
number_length before [] = 0
number_length before (b ∷ bytes) = if in_number before b then number_length b bytes + 1 else 0

-- This is a quoted name of which this many bytes were read behind its first `"`. It has 1 to 255 bytes, and then `"`.
abbrev pub name_from : ℕ → List ℕ → Front
name_from read [] = Unclosed
name_from read (b ∷ bytes) =
    if b == 34 then (if read == 0 then Strange else Spelling (read + 2))
    else (if in_name b && nat_lt read longest_name then name_from (read + 1) bytes else Strange)

-- This is the sign of this one byte, if it is one.
abbrev pub short_sign : ℕ → Front
short_sign b = if is_short_sign b then Spelling 1 else Strange

-- This is the longer of two signs that begin alike.
abbrev pub sign_from : ℕ → List ℕ → Front
sign_from b [] = short_sign b
sign_from b (c ∷ bytes) = if is_long_sign b c then Spelling 2 else short_sign b

-- The byte is a space, a tab, or a byte of a line ending, LF or CRLF.
abbrev pub is_blank : ℕ → List ℕ → Bool
is_blank b bytes = b == 32 || b == 9 || b == 10 || (b == 13 && begins_lf bytes)

-- A text with this first byte begins with a blank, a token and its length, or bytes that form none.
abbrev pub front_from : ℕ → List ℕ → Front
front_from b bytes =
    if is_blank b bytes then Blank
    else if begins_word b then Spelling (word_length bytes + 1)
    else if is_digit b then Spelling (number_length b bytes + 1)
    else if b == 34 then name_from 0 bytes
    else sign_from b bytes

-- These definitions are about the tokens of a text.

-- Tokens come one after another, each with the place of its first byte, up to the end of the text or to bytes that form
-- none.
pub data Tokens : Type 0 where
  Finish : (place : ℕ) → Tokens
  Broken : (fault : FormulaFault) → Tokens
  Then : (place : ℕ) → (spelling : List ℕ) → (rest : Tokens) → Tokens

-- A token has its place, its spelling, and the tokens behind it.
pub record Token : Type 0 where
  pub place : ℕ
  pub spelling : List ℕ
  pub after : Tokens

-- These are the tokens that begin with the front of a text. `more` gives the tokens behind a number of further bytes.
abbrev pub in_front : ℕ → List ℕ → Front → (ℕ → Tokens) → Tokens
in_front place text Blank more = more 0
in_front place text (Spelling count) more = Then place (take count text) (more (count - 1))
in_front place text Unclosed more = Broken (fault_at (place + length text) End)
in_front place text Strange more = Broken (fault_at place Unexpected)

-- A byte is passed over if it belongs to the token before.
abbrev pub passed : ℕ → Tokens → (ℕ → Tokens) → Tokens
passed zero here more = here
passed (suc count) here more = more count

-- These are the tokens of the text at this place, behind the bytes that belong to the token before.
abbrev pub tokens_from : ℕ → ℕ → List ℕ → Tokens
tokens_from place within [] = Finish place
tokens_from place within (b ∷ bytes) =
    passed within (in_front place (b ∷ bytes) (front_from b bytes) (λ more. tokens_from (place + 1) more bytes))
    (λ more. tokens_from (place + 1) more bytes)

-- These are the tokens of a whole text.
abbrev pub tokens_of : List ℕ → Tokens
tokens_of text = tokens_from 0 0 text

-- This is the number of tokens.
abbrev pub count_of : Tokens → ℕ
count_of (Finish place) = 0
count_of (Broken fault) = 0
count_of (Then place spelling rest) = count_of rest + 1
