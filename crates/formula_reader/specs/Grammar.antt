-- The grammar of formulas is read from the left: this gives the tree that tokens spell and the tokens behind it, or the
-- first fault.
use Rattle.std.specs.Prelude.{ℕ, zero, suc, ◌||◌, nat_lt, Bool, false, List, [], ◌∷◌, length, ◌-◌}
use Rattle.std.specs.Prelude.{Option, Some, None, Result, Ok, Err, if◌then◌else◌, bytes_eq, codes}
use Rattle.fractions.specs.Fraction.{Fraction}
use Rattle.fractions.specs.declared.number.NumberFault.{NumberFault}
use Rattle.fractions.specs.declared.number.NumberFault.TheVariants.{TooLarge}
use Rattle.fractions.specs.Number.{number_said}
use Rattle.formula_tokens.specs.declared.fault.FormulaFault.{FormulaFault}
use Rattle.formula_tokens.specs.declared.fault.FormulaCause.TheVariants.{End, Unexpected, TooDeep, BadNumber}
use Rattle.formula_tokens.specs.declared.fault.FormulaCause.TheVariants.{ThresholdOutOfRange, TooLong, BadSteps}
use Rattle.formula_tokens.specs.declared.fault.FormulaCause.TheVariants.{AskInside}
use Rattle.formula_reader.specs.declared.formula.Bound.{Bound}
use Rattle.formula_reader.specs.declared.formula.Bound.TheVariants.{AtLeast, Above, AtMost, Below, AskMax, AskMin}
use Rattle.formula_reader.specs.declared.formula.PathKind.{PathKind}
use Rattle.formula_reader.specs.declared.formula.PathKind.TheVariants.{Until, Within, Next, Always}
use Rattle.formula_tokens.specs.Fault.{fault_at, ◌>>=◌}
use Rattle.formula_reader.specs.Formula.{State, True, False, Label, Not, And, Or, Implies, Path, Tree, inner_of}
use Rattle.formula_reader.specs.Limits.{most_nested, most_steps}
use Rattle.formula_tokens.specs.Reading.{Reading, next, fails, is, behind, is_word, is_number, is_quoted, unquoted}
use Rattle.formula_tokens.specs.Reading.{follows, where_next}
use Rattle.formula_tokens.specs.Limits.{longest}
use Rattle.text_lines.specs.Text.{number_of}
use Rattle.formula_tokens.specs.Tokens.{Tokens, Finish, Broken, Then, Token, tokens_of, count_of}

-- coalition = "<<" [ word { "," word } ] ">>"

-- This is a name, and the names that are read behind it.
abbrev pub with_name : List ℕ → Result (List (List ℕ) × Tokens) FormulaFault
    → Result (List (List ℕ) × Tokens) FormulaFault
with_name name read = read >>= λ names. Ok (name ∷ names.0, names.1)

abbrev mutual
  -- This reads a name and what comes behind it.
  pub names : Reading (List (List ℕ))
  names (Finish place) = Err (fault_at place End)
  names (Broken fault) = Err fault
  names (Then place word rest) = if is_word word then with_name word (further_names rest) else Err
      (fault_at place Unexpected)

  -- This reads `,` and a further name, or `>>`.
  pub further_names : Reading (List (List ℕ))
  further_names (Finish place) = Err (fault_at place End)
  further_names (Broken fault) = Err fault
  further_names (Then place sign rest) =
      if bytes_eq sign (codes ">>") then Ok ([], rest)
      else if bytes_eq sign (codes ",") then names rest
      else Err (fault_at place Unexpected)

-- The names that are read are those of a coalition.
abbrev pub some_names : Result (List (List ℕ) × Tokens) FormulaFault
    → Result (Option (List (List ℕ)) × Tokens) FormulaFault
some_names read = read >>= λ names. Ok (Some names.0, names.1)

-- This reads the players of a coalition between `<<` and `>>`. It reads nothing if `<<` does not come next.
abbrev pub coalition : Reading (Option (List (List ℕ)))
coalition ts =
    where_next (follows (codes "<<") ts) (Ok (None, ts))
    (λ inside. where_next (follows (codes ">>") inside) (some_names (names inside)) (λ after. Ok (Some [], after)))

-- bound = "P" ( ">=" | ">" | "<=" | "<" ) number | "Pmax" "=?" | "Pmin" "=?"

-- A number is a threshold if it is at most 1.
abbrev pub threshold_of : Token → Result Fraction NumberFault → Result Fraction FormulaFault
threshold_of token (Ok value) = if nat_lt value.den value.num then fails token ThresholdOutOfRange else Ok value
threshold_of token (Err TooLarge) = fails token ThresholdOutOfRange
threshold_of token (Err fault) = fails token (BadNumber fault)

-- This is the threshold that a token spells, or what is wrong with it.
abbrev pub threshold : Token → Result Fraction FormulaFault
threshold token = if is_number token.spelling then threshold_of token
    (number_said token.spelling) else fails token Unexpected

-- This reads the threshold behind a sign of comparison, as a bound of this kind.
abbrev pub compared : (Fraction → Bound) → Reading Bound
compared bound ts = next ts >>= λ token. threshold token >>= λ value. Ok (bound value, token.after)

-- This reads what comes behind `P`: a sign of comparison and a threshold.
abbrev pub comparison : Reading Bound
comparison ts = next ts >>= λ sign.
    if is sign (codes ">=") then compared (λ p. AtLeast p) sign.after
    else if is sign (codes ">") then compared (λ p. Above p) sign.after
    else if is sign (codes "<=") then compared (λ p. AtMost p) sign.after
    else if is sign (codes "<") then compared (λ p. Below p) sign.after
    else fails sign Unexpected

-- This reads what comes behind `Pmax` and `Pmin`: `=?`, which asks for the value.
abbrev pub asked : Bound → Reading Bound
asked bound ts = behind (codes "=?") ts >>= λ after. Ok (bound, after)

-- This reads the bound of a formula that is inside no other: it compares with a threshold, or asks for a value.
abbrev pub bound : Reading Bound
bound ts = next ts >>= λ token.
    if is token (codes "P") then comparison token.after
    else if is token (codes "Pmax") then asked AskMax token.after
    else if is token (codes "Pmin") then asked AskMin token.after
    else fails token Unexpected

-- This reads the bound of a formula inside, which can only compare with a threshold.
abbrev pub inner_bound : Reading Bound
inner_bound ts = next ts >>= λ token.
    if is token (codes "P") then comparison token.after
    else if is token (codes "Pmax") || is token (codes "Pmin") then fails token AskInside
    else fails token Unexpected

-- path = "F" [ "<=" number ] state | state "U" [ "<=" number ] state | "X" state | "G" state, where `state` reads a
-- state formula

-- A whole number is a number of steps if it is not too great.
abbrev pub steps_of : Token → Option ℕ → Result ℕ FormulaFault
steps_of token None = fails token BadSteps
steps_of token (Some k) = if nat_lt most_steps k then fails token BadSteps else Ok k

-- This is the number of steps that a token spells, or what is wrong with it.
abbrev pub steps : Token → Result ℕ FormulaFault
steps token = if is_number token.spelling then steps_of token (number_of token.spelling) else fails token Unexpected

-- This reads what comes behind `<=`.
abbrev pub within : Reading PathKind
within ts = next ts >>= λ token. steps token >>= λ k. Ok (Within k, token.after)

-- This reads [ "<=" number ].
abbrev pub deadline : Reading PathKind
deadline ts = where_next (follows (codes "<=") ts) (Ok (Until, ts)) within

-- This reads the right side of a path.
abbrev pub right_side : Reading State → PathKind → State → Reading Path
right_side state kind left ts = state ts >>= λ right. Ok (record { kind = kind; left = left; right = right.0 }, right.1)

-- This reads what comes behind `F` or `U`.
abbrev pub reached : Reading State → State → Reading Path
reached state left ts = deadline ts >>= λ kind. right_side state kind.0 left kind.1

-- This reads what is asked of a path, and its two sides, which `state` reads. The left side of `F`, `X` and `G` is
-- `true`.
abbrev pub path : Reading State → Reading Path
path state ts = next ts >>= λ token.
    if is token (codes "F") then reached state True token.after
    else if is token (codes "X") then right_side state Next True token.after
    else if is token (codes "G") then right_side state Always True token.after
    else state ts >>= λ left. behind (codes "U") left.1 >>= λ after. reached state left.0 after

-- This reads a path, and the `]` that closes it.
abbrev pub bracketed : Reading State → Token → Result (Path × Tokens) FormulaFault
bracketed state token = path state token.after >>= λ p. behind (codes "]") p.1 >>= λ after. Ok (p.0, after)

-- unary = "!" unary | "(" state ")" | "true" | "false" | quoted name | formula, whose bound is a comparison

-- The token begins a formula inside.
abbrev pub begins_formula : Token → Bool
begins_formula token = is token (codes "P") || is token (codes "Pmax") || is token (codes "Pmin")
    || is token (codes "<<")

-- This reads a state formula of one token: `true`, `false` or the name of a label.
abbrev pub plain : Token → Result (State × Tokens) FormulaFault
plain token =
    if is token (codes "true") then Ok (True, token.after)
    else if is token (codes "false") then Ok (False, token.after)
    else if is_quoted token.spelling then Ok (Label (unquoted token.spelling), token.after)
    else fails token Unexpected

-- The token is a sign that opens a state formula: `!` or `(`.
abbrev pub opens : Token → Bool
opens token = is token (codes "!") || is token (codes "(")

-- Opening signs lead to this: a `!` or a `(` to a state formula, and the `[` of a formula to its path and `]`.
pub record Inside : Type 0 where
  pub state : Token → Result (State × Tokens) FormulaFault
  pub path : Token → Result (Path × Tokens) FormulaFault

-- This reads "[" path "]".
abbrev pub sides : Inside → Reading Path
sides inside ts = next ts >>= λ token. if is token (codes "[") then inside.path token else fails token Unexpected

-- This is the formula of these parts.
abbrev pub tree_with : Option (List (List ℕ)) → Bound → Path → Tree
tree_with team asks p = record { coalition = team; bound = asks; kind = p.kind; left = p.left; right = p.right }

-- This reads a formula inside a state formula: a coalition if one is named, a comparison, and a path.
abbrev pub inner : Inside → Reading State
inner inside ts = do
  team ← coalition ts
  asks ← inner_bound team.1
  p ← sides inside asks.1
  Ok (inner_of (tree_with team.0 asks.0 p.0), p.1)

-- This reads an operand, which has no operator outside of brackets but `!`.
abbrev pub unary : Inside → Reading State
unary inside ts = next ts >>= λ token. if opens token then inside.state token else if begins_formula token then inner
    inside ts else plain token

-- This reads further operands, each behind a sign, and groups them to the left. Their number is at most that of the
-- tokens that are left.
abbrev pub further : List ℕ → (State → State → State) → Reading State → ℕ → State → Reading State
further sign join operand zero left ts = Ok (left, ts)
further sign join operand (suc most) left ts =
    where_next (follows sign ts) (Ok (left, ts))
    (λ after. operand after >>= λ right. further sign join operand most (join left right.0) right.1)

-- This reads operand { sign operand }.
abbrev pub joined : List ℕ → (State → State → State) → Reading State → Reading State
joined sign join operand ts = operand ts >>= λ left. further sign join operand (count_of left.1) left.0 left.1

-- both = unary { "&" unary }
abbrev pub both : Reading State → Reading State
both operand = joined (codes "&") And operand

-- either = both { "|" both }
abbrev pub either : Reading State → Reading State
either operand = joined (codes "|") Or (both operand)

-- state = either { "=>" either }
abbrev pub implied : Reading State → Reading State
implied operand = joined (codes "=>") Implies (either operand)

-- This is the negation of the state formula that is read.
abbrev pub negated : Result (State × Tokens) FormulaFault → Result (State × Tokens) FormulaFault
negated read = read >>= λ x. Ok (Not x.0, x.1)

-- Behind the state formula that is read comes the `)` that closes it.
abbrev pub closed : Result (State × Tokens) FormulaFault → Result (State × Tokens) FormulaFault
closed read = read >>= λ x. behind (codes ")") x.1 >>= λ after. Ok (x.0, after)

-- This is what a `!` or a `(` begins, if `inside` reads what is in it.
abbrev pub inside_of : Inside → Token → Result (State × Tokens) FormulaFault
inside_of inside token = if is token (codes "!") then negated (unary inside token.after) else closed
    (implied (unary inside) token.after)

-- Opening signs lead to this if this many more `!`, `(` and `[` may be open at once.
unfoldable pub nested : ℕ → Inside
nested zero = record { state = λ token. fails token TooDeep; path = λ token. fails token TooDeep }
nested (suc room) = record { state = inside_of (nested room); path = bracketed (implied (unary (nested room))) }

-- formula = [ coalition ] bound "[" path "]", and no token behind it

-- The text ends behind what was read, or there is a fault.
abbrev pub finished : {X : Type 0} → X → Tokens → Result X FormulaFault
finished x (Finish place) = Ok x
finished x (Broken fault) = Err fault
finished x (Then place spelling rest) = Err (fault_at place Unexpected)

-- This reads the sides of a formula and its end. Its `[` is not among those that are counted.
abbrev pub behind_bound : Option (List (List ℕ)) → Bound → Tokens → Result Tree FormulaFault
behind_bound team asks ts = sides (nested (suc most_nested)) ts >>= λ p. finished (tree_with team asks p.0) p.1

-- This is the formula that the tokens spell from the first to the last, or the first fault.
abbrev pub formula : Tokens → Result Tree FormulaFault
formula ts = do
  team ← coalition ts
  asks ← bound team.1
  behind_bound team.0 asks.0 asks.1

-- This is the formula that a text spells, or its first fault.
unfoldable pub formula_said : List ℕ → Result Tree FormulaFault
formula_said text = if nat_lt longest (length text) then Err (fault_at longest TooLong) else formula (tokens_of text)
