-- The grammar of formulas of rewards is read from the left: this gives the tree that a text spells, or the first fault.
use Rattle.std.specs.Prelude.{ℕ, ◌||◌, nat_lt, Bool, false, List, length, Option, Some, None, Result, Ok, Err}
use Rattle.std.specs.Prelude.{if◌then◌else◌}
use Rattle.std.specs.Prelude.{codes}
use Rattle.fractions.specs.Fraction.{Fraction}
use Rattle.rewards_reader.specs.declared.fault.RewardsCause.{RewardsCause}
use Rattle.rewards_reader.specs.declared.fault.RewardsCause.TheVariants.{Number}
use Rattle.rewards_reader.specs.Amounts.{amount_said}
use Rattle.formula_tokens.specs.declared.fault.FormulaFault.{FormulaFault}
use Rattle.formula_tokens.specs.declared.fault.FormulaCause.{FormulaCause}
use Rattle.formula_tokens.specs.declared.fault.FormulaCause.TheVariants.{Unexpected, BadNumber, ThresholdOutOfRange}
use Rattle.formula_tokens.specs.declared.fault.FormulaCause.TheVariants.{TooLong}
use Rattle.formula_tokens.specs.Fault.{fault_at, ◌>>=◌}
use Rattle.formula_tokens.specs.Limits.{longest}
use Rattle.formula_tokens.specs.Reading.{Reading, next, fails, is, behind, is_number, is_quoted, unquoted, follows}
use Rattle.formula_tokens.specs.Reading.{where_next}
use Rattle.formula_tokens.specs.Tokens.{Tokens, Finish, Broken, Then, Token, tokens_of}
use Rattle.formula_reader.specs.declared.formula.Comparison.{Comparison}
use Rattle.formula_reader.specs.declared.formula.Comparison.TheVariants.{AtLeast as at_least, Above as above}
use Rattle.formula_reader.specs.declared.formula.Comparison.TheVariants.{AtMost as at_most, Below as below}
use Rattle.formula_reader.specs.Formula.{State, Tree}
use Rattle.formula_reader.specs.Grammar.{coalition, begins_formula, unary, nested, implied, finished, formula_said}
use Rattle.formula_reader.specs.Limits.{most_nested}
use Rattle.reward_formula.specs.declared.formula.RewardBound.{RewardBound}
use Rattle.reward_formula.specs.declared.formula.RewardBound.TheVariants.{AtLeast, Above, AtMost, Below, AskMax, AskMin}
use Rattle.reward_formula.specs.Formula.{RewardTree, AnyTree, OfProbability, OfReward}

-- sign number

-- This is the comparison that a sign makes.
abbrev pub comparison : Token → Result Comparison FormulaFault
comparison sign =
    if is sign (codes ">=") then Ok at_least
    else if is sign (codes ">") then Ok above
    else if is sign (codes "<=") then Ok at_most
    else if is sign (codes "<") then Ok below
    else fails sign Unexpected

-- This is the cause why a number is no threshold: its spelling is at fault, or else it is too large.
abbrev pub threshold_cause : RewardsCause → FormulaCause
threshold_cause (Number fault) = BadNumber fault
threshold_cause cause = ThresholdOutOfRange

-- A number is a threshold if it may be a reward.
abbrev pub threshold_of : Token → Result Fraction RewardsCause → Result Fraction FormulaFault
threshold_of token (Ok value) = Ok value
threshold_of token (Err cause) = fails token (threshold_cause cause)

-- This is the threshold that a token spells, or what is wrong with it.
abbrev pub threshold : Token → Result Fraction FormulaFault
threshold token = if is_number token.spelling then threshold_of token
    (amount_said token.spelling) else fails token Unexpected

-- This is the bound that makes this comparison with the threshold.
abbrev pub bound_with : Comparison → Fraction → RewardBound
bound_with at_least x = AtLeast x
bound_with above x = Above x
bound_with at_most x = AtMost x
bound_with below x = Below x

-- This reads the threshold behind a sign of comparison.
abbrev pub compared : Token → Result (RewardBound × Tokens) FormulaFault
compared sign = do
  kind ← comparison sign
  token ← next sign.after
  x ← threshold token
  Ok (bound_with kind x, token.after)

-- reward = "Rmax" "=?" | "Rmin" "=?" | "R" [ name ] sign number | "R" name ( "max" | "min" ) "=?"

-- This reads `=?`, which asks for a value.
abbrev pub asked : RewardBound → Reading RewardBound
asked bound ts = behind (codes "=?") ts >>= λ after. Ok (bound, after)

-- This reads the bound of a reward without a name, behind a word: `=?` behind `Rmax` or `Rmin`, and a comparison
-- behind `R`.
abbrev pub bare_bound : Token → Result (RewardBound × Tokens) FormulaFault
bare_bound token =
    if is token (codes "Rmax") then asked AskMax token.after
    else if is token (codes "Rmin") then asked AskMin token.after
    else (next token.after >>= compared)

-- This reads the bound behind a name: `max` or `min` and `=?`, or a comparison.
abbrev pub named_bound : Reading RewardBound
named_bound ts = next ts >>= λ token.
    if is token (codes "max") then asked AskMax token.after
    else if is token (codes "min") then asked AskMin token.after
    else compared token

-- A reward has a name, if one is given, and there is a bound on it.
pub record Reward : Type 0 where
  pub name : Option (List ℕ)
  pub bound : RewardBound

-- This is the reward of this name with this bound.
abbrev pub reward_of : Option (List ℕ) → RewardBound → Reward
reward_of name bound = record { name = name; bound = bound }

-- This is the reward of this name with the bound that is read.
abbrev pub with_name : Option (List ℕ) → Result (RewardBound × Tokens) FormulaFault
    → Result (Reward × Tokens) FormulaFault
with_name name read = read >>= λ b. Ok (reward_of name b.0, b.1)

-- These are the tokens behind `R` and `{`, if these two come here.
abbrev pub name_behind : Token → Option Tokens
name_behind token = if is token (codes "R") then follows (codes "{") token.after else None

-- This is the name that a token quotes.
abbrev pub quoted : Token → Result (List ℕ) FormulaFault
quoted token = if is_quoted token.spelling then Ok (unquoted token.spelling) else fails token Unexpected

-- This reads a quoted name, and the `}` behind it.
abbrev pub braced : Reading (List ℕ)
braced ts = do
  token ← next ts
  name ← quoted token
  after ← behind (codes "}") token.after
  Ok (name, after)

-- This reads what comes behind `R` and `{`.
abbrev pub named_reward : Reading Reward
named_reward ts = braced ts >>= λ name. with_name (Some name.0) (named_bound name.1)

-- This reads a reward that begins with this token.
abbrev pub reward : Token → Result (Reward × Tokens) FormulaFault
reward token = where_next (name_behind token) (with_name None (bare_bound token)) named_reward

-- "[" "F" state "]", and no token behind it

-- This reads the goal, in which formulas may be inside.
abbrev pub any_goal : Tokens → Result State FormulaFault
any_goal ts = do
  opened ← behind (codes "[") ts
  reached ← behind (codes "F") opened
  x ← implied (unary (nested most_nested)) reached
  closed ← behind (codes "]") x.1
  finished x.0 closed

-- This is the place of the first token that begins a formula inside.
abbrev pub inner_place : Tokens → Option ℕ
inner_place (Finish place) = None
inner_place (Broken fault) = None
inner_place (Then place spelling rest) =
    if begins_formula (record { place = place; spelling = spelling; after = rest }) then Some place
    else inner_place rest

-- This is the fault if it comes before the place, and otherwise that the token at the place is not allowed.
abbrev pub first_fault : FormulaFault → ℕ → FormulaFault
first_fault fault place = if nat_lt fault.place place then fault else fault_at place Unexpected

-- What is read goes up to this place, if there is one: the token there is not allowed.
abbrev pub up_to : Option ℕ → Result State FormulaFault → Result State FormulaFault
up_to None read = read
up_to (Some place) (Ok x) = Err (fault_at place Unexpected)
up_to (Some place) (Err fault) = Err (first_fault fault place)

-- This reads the goal, in which no formula is inside.
abbrev pub goal : Tokens → Result State FormulaFault
goal ts = up_to (inner_place ts) (any_goal ts)

-- formula = [ coalition ] reward "[" "F" state "]", or a formula of probability

-- The token begins a reward.
abbrev pub begins_reward : Token → Bool
begins_reward token = is token (codes "R") || is token (codes "Rmax") || is token (codes "Rmin")

-- This is the formula of these parts.
abbrev pub reward_tree : Option (List (List ℕ)) → Reward → State → RewardTree
reward_tree team r x = record { coalition = team; name = r.name; bound = r.bound; goal = x }

-- This reads a formula of rewards behind its coalition.
abbrev pub formula_from : Option (List (List ℕ)) → Token → Result RewardTree FormulaFault
formula_from team token = reward token >>= λ r. goal r.1 >>= λ x. Ok (reward_tree team r.0 x)

-- The formula that is read is one of rewards.
abbrev pub of_reward : Result RewardTree FormulaFault → Result AnyTree FormulaFault
of_reward read = read >>= λ f. Ok (OfReward f)

-- The formula that is read is one of probability.
abbrev pub of_probability : Result Tree FormulaFault → Result AnyTree FormulaFault
of_probability read = read >>= λ f. Ok (OfProbability f)

-- This is the formula that a text of these tokens spells, or the first fault. It is one of rewards if a reward begins
-- behind the coalition.
abbrev pub any_formula : List ℕ → Tokens → Result AnyTree FormulaFault
any_formula text ts = coalition ts >>= λ team. next team.1 >>= λ token.
    if begins_reward token then of_reward (formula_from team.0 token) else of_probability (formula_said text)

-- This is the formula that a text spells, or its first fault.
unfoldable pub any_said : List ℕ → Result AnyTree FormulaFault
any_said text = if nat_lt longest (length text) then Err (fault_at longest TooLong)
    else any_formula text (tokens_of text)

-- The token that is read begins a reward.
abbrev pub is_reward_next : Result Token FormulaFault → Bool
is_reward_next (Ok token) = begins_reward token
is_reward_next (Err fault) = false

-- A reward begins behind the coalition.
abbrev pub is_of_reward : Tokens → Bool
is_of_reward ts = is_reward_next (coalition ts >>= λ team. next team.1)
