-- Tokens are read from the left one after another.
use Rattle.std.specs.Prelude.{ℕ, ◌==◌, Bool, false, List, [], ◌∷◌, length, drop, take, ◌-◌, Option, Some, None}
use Rattle.std.specs.Prelude.{Result, Ok, Err, if◌then◌else◌, bytes_eq}
use Rattle.text_lines.specs.Text.{is_digit}
use Rattle.formula_tokens.specs.declared.fault.FormulaFault.{FormulaFault}
use Rattle.formula_tokens.specs.declared.fault.FormulaCause.{FormulaCause}
use Rattle.formula_tokens.specs.declared.fault.FormulaCause.TheVariants.{End, Unexpected}
use Rattle.formula_tokens.specs.Fault.{fault_at, ◌>>=◌}
use Rattle.formula_tokens.specs.Tokens.{Tokens, Finish, Broken, Then, Token, begins_word}

-- A reading from the left gives a value and the tokens behind it, or the first fault.
abbrev pub Reading : Type 0 → Type 0
Reading X = Tokens → Result (X × Tokens) FormulaFault

-- This is the next token, which has to be there.
abbrev pub next : Tokens → Result Token FormulaFault
next (Finish place) = Err (fault_at place End)
next (Broken fault) = Err fault
next (Then place spelling rest) = Ok (record { place = place; spelling = spelling; after = rest })

-- Nothing is read, and the token is at fault for this cause.
abbrev pub fails : {X : Type 0} → Token → FormulaCause → Result X FormulaFault
fails token cause = Err (fault_at token.place cause)

-- The token has this spelling.
abbrev pub is : Token → List ℕ → Bool
is token spelling = bytes_eq token.spelling spelling

-- These are the tokens behind this token, which has to come next.
abbrev pub behind : List ℕ → Tokens → Result Tokens FormulaFault
behind spelling ts = next ts >>= λ token. if is token spelling then Ok token.after else fails token Unexpected

-- There is a first byte, and it passes the test.
abbrev pub begins_with : (ℕ → Bool) → List ℕ → Bool
begins_with test [] = false
begins_with test (b ∷ bytes) = test b

-- A token of this spelling is a word: it begins with a letter or `_`.
abbrev pub is_word : List ℕ → Bool
is_word spelling = begins_with begins_word spelling

-- A token of this spelling is a number: it begins with a digit.
abbrev pub is_number : List ℕ → Bool
is_number spelling = begins_with is_digit spelling

-- A token of this spelling is a quoted name: it begins with `"`.
abbrev pub is_quoted : List ℕ → Bool
is_quoted spelling = begins_with (λ b. b == 34) spelling

-- This is the name between the two `"`.
abbrev pub unquoted : List ℕ → List ℕ
unquoted spelling = take (length spelling - 2) (drop 1 spelling)

-- These are the tokens behind this sign, if it comes next.
abbrev pub follows : List ℕ → Tokens → Option Tokens
follows sign (Finish place) = None
follows sign (Broken fault) = None
follows sign (Then place spelling rest) = if bytes_eq spelling sign then Some rest else None

-- This is what a sign that comes next leads to, or what there is without it.
abbrev pub where_next : {X : Type 0} → Option Tokens → X → (Tokens → X) → X
where_next None without with_sign = without
where_next (Some after) without with_sign = with_sign after
