-- These definitions give what the lines of a transition text say, each by itself and behind those before it.
use Rattle.std.specs.Prelude.{◌≡◌, ◌<◌, ◌≤◌, ℕ, ◌+◌, ◌==◌, ◌&&◌, ◌||◌, not, nat_lt, Bool, false, List, [], ◌∷◌, ◌++◌}
use Rattle.std.specs.Prelude.{length, map, slice_get, Option, Some, None, option_map, Result, Ok, Err, if◌then◌else◌}
use Rattle.std.specs.List.{filter, All, AllZip}
use Rattle.std.specs.Option.{option_map_or, ForSome}
use Rattle.std.specs.Str.{bytes_eq}
use Rattle.text_lines.specs.Text.{fields_of, number_of, is_nil}
use Rattle.game_model.specs.Limits.{most_states}
use Rattle.fractions.specs.declared.number.NumberFault.{NumberFault}
use Rattle.fractions.specs.Fraction.{Fraction}
use Rattle.fractions.specs.Number.{DenotesNumber, number_said}
use Rattle.transition_lines.specs.declared.header.Header.{Header}
use Rattle.transition_lines.specs.declared.line.Transition.{Transition}
use Rattle.transition_lines.specs.declared.fault.TraCause.{TraCause}
use Rattle.transition_lines.specs.declared.fault.TraCause.TheVariants.{NoHeader, BadField, FieldCount, OverLimit}
use Rattle.transition_lines.specs.declared.fault.TraCause.TheVariants.{NoStates}
use Rattle.transition_lines.specs.declared.fault.TraCause.TheVariants.{StateOutOfRange, Number, ActionClash, LineCount}
use Rattle.transition_lines.specs.declared.fault.TraFault.{TraFault}
use Rattle.transition_lines.specs.Faults.{fault_at, fault_of_all}
use Rattle.transition_lines.specs.Limits.{most_stated_choices, most_lines}

-- 1. These definitions are relations.

-- These are the numbers of a header: `n c m` for an MDP, `n m` for a DTMC.
abbrev pub header_numbers : ℕ → Option ℕ → ℕ → List ℕ
header_numbers n (Some c) m = n ∷ c ∷ m ∷ []
header_numbers n None m = n ∷ m ∷ []

-- The line is this header: the number of states, at least one, of choices in an MDP, and of lines, each within its
-- limit.
pub record IsHeader (line : List ℕ) (header : Header) : Type 0 where
  pub numbers : map number_of (fields_of line) ≡ map Some (header_numbers header.states header.choices header.lines)
  pub some : 0 < header.states
  pub few : header.states ≤ most_states
  pub bounded : ForSome header.choices (λ c. c ≤ most_stated_choices)
  pub short : header.lines ≤ most_lines

-- The parts of a line are three whole numbers, each only if its field spells one, the probability, and the action. An
-- action is a field, or no byte if there is none.
pub record LineParts : Type 0 where
  pub source : Option ℕ
  pub choice : Option ℕ
  pub destination : Option ℕ
  pub probability : List ℕ
  pub action : List ℕ

-- In an MDP a line is `i k j x` or `i k j x a`.
abbrev pub mdp_parts : List (List ℕ) → Option LineParts
mdp_parts (i ∷ k ∷ j ∷ x ∷ []) = Some (record {
  source = number_of i;
  choice = number_of k;
  destination = number_of j;
  probability = x;
  action = [];
})
mdp_parts (i ∷ k ∷ j ∷ x ∷ a ∷ []) = Some (record {
  source = number_of i;
  choice = number_of k;
  destination = number_of j;
  probability = x;
  action = a;
})
mdp_parts fields = None

-- In a DTMC a line is `i j x` or `i j x a`. It counts as choice 0, and its action is ignored.
abbrev pub dtmc_parts : List (List ℕ) → Option LineParts
dtmc_parts (i ∷ j ∷ x ∷ []) = Some (record {
  source = number_of i;
  choice = Some 0;
  destination = number_of j;
  probability = x;
  action = [];
})
dtmc_parts (i ∷ j ∷ x ∷ a ∷ []) = Some (record {
  source = number_of i;
  choice = Some 0;
  destination = number_of j;
  probability = x;
  action = [];
})
dtmc_parts fields = None

-- A header that states choices is that of an MDP.
abbrev pub line_parts : Option ℕ → List (List ℕ) → Option LineParts
line_parts (Some c) fields = mdp_parts fields
line_parts None fields = dtmc_parts fields

-- A line says its transition and its action.
pub record Row : Type 0 where
  pub transition : Transition
  pub action : List ℕ

-- The line says this row of a text with this header: a transition between two of its states, with its probability, and
-- an action.
pub record IsRow (header : Header) (line : List ℕ) (row : Row) : Type 0 where
  pub probability : List ℕ
  pub parts : line_parts header.choices (fields_of line)
      ≡ Some (record {
        source = Some row.transition.source;
        choice = Some row.transition.choice;
        destination = Some row.transition.destination;
        probability = probability;
        action = row.action;
      })
  pub share : DenotesNumber probability row.transition.share
  pub source_in : row.transition.source < header.states
  pub choice_in : row.transition.choice < most_stated_choices
  pub destination_in : row.transition.destination < header.states

-- Each line says the row in its place.
abbrev pub AreRows : Header → List (List ℕ) → List Row → Type 0
AreRows header lines rows = AllZip (IsRow header) lines rows

-- The row has the action of its choice.
abbrev pub HasAction : (ℕ → ℕ → List ℕ) → Row → Type 0
HasAction action_of row = row.action ≡ action_of row.transition.source row.transition.choice

-- All rows of a choice have its action.
abbrev pub HaveActions : List Row → (ℕ → ℕ → List ℕ) → Type 0
HaveActions rows action_of = All (HasAction action_of) rows

-- 2. These definitions go by cases, with the first fault.

-- This is the header with n states, c choices and m lines, or its fault: a number is above its limit, or there is no
-- state.
abbrev pub header_checked : ℕ → Option ℕ → ℕ → Result Header TraCause
header_checked n c m =
    if nat_lt most_states n || (option_map_or (nat_lt most_stated_choices) c false
    || nat_lt most_lines m) then Err OverLimit
    else (if n == 0 then Err NoStates else Ok (record { states = n; choices = c; lines = m }))

-- This is the header of an MDP, from three whole numbers for states, choices and lines, or its fault.
abbrev pub mdp_header : Option ℕ → Option ℕ → Option ℕ → Result Header TraCause
mdp_header (Some n) (Some c) (Some m) = header_checked n (Some c) m
mdp_header n c m = Err NoHeader

-- This is the header of a DTMC, from two whole numbers for states and lines, or its fault.
abbrev pub dtmc_header : Option ℕ → Option ℕ → Result Header TraCause
dtmc_header (Some n) (Some m) = header_checked n None m
dtmc_header n m = Err NoHeader

-- This is the header that the fields of a line say, three in an MDP and two in a DTMC, or its fault.
abbrev pub header_said : List (List ℕ) → Result Header TraCause
header_said (n ∷ m ∷ []) = dtmc_header (number_of n) (number_of m)
header_said (n ∷ c ∷ m ∷ []) = mdp_header (number_of n) (number_of c) (number_of m)
header_said fields = Err NoHeader

-- This is the transition from state i by choice k to state j with this probability, or the fault of the probability.
abbrev pub transition_with : ℕ → ℕ → ℕ → Result Fraction NumberFault → Result Transition TraCause
transition_with i k j (Ok share) = Ok (record { source = i; choice = k; destination = j; share = share })
transition_with i k j (Err fault) = Err (Number fault)

-- This is the transition from state i by choice k to state j, or the first fault: a state is not below n, the choice is
-- not below its limit, or the probability is refused.
abbrev pub transition_within : ℕ → ℕ → ℕ → ℕ → Result Fraction NumberFault → Result Transition TraCause
transition_within n i k j share =
    if nat_lt i n then (if nat_lt k most_stated_choices then
    (if nat_lt j n then transition_with i k j share else Err StateOutOfRange) else Err OverLimit)
    else Err StateOutOfRange

-- This is the transition between n states that the numbers of a line say, or the first fault. Each has to be a whole
-- number.
abbrev pub transition_said : ℕ → Option ℕ → Option ℕ → Option ℕ → Result Fraction NumberFault
    → Result Transition TraCause
transition_said n (Some i) (Some k) (Some j) share = transition_within n i k j share
transition_said n i k j share = Err BadField

-- This is the row of a transition and its action, or the fault of the transition.
abbrev pub row_with : List ℕ → Result Transition TraCause → Result Row TraCause
row_with action (Ok transition) = Ok (record { transition = transition; action = action })
row_with action (Err cause) = Err cause

-- This is the row that the parts of a line say if there are n states, or the first fault. Without parts, the line has
-- too few fields or too many.
abbrev pub parts_said : ℕ → Option LineParts → Result Row TraCause
parts_said n None = Err FieldCount
parts_said n (Some parts) = row_with parts.action (transition_said n parts.source parts.choice parts.destination
    (number_said parts.probability))

-- The line says this row by itself, or has this fault.
abbrev pub row_said : Header → List (List ℕ) → Result Row TraCause
row_said header fields = parts_said header.states (line_parts header.choices fields)

-- The transition belongs to choice k of state s.
abbrev pub is_of : ℕ → ℕ → Transition → Bool
is_of s k transition = transition.source == s && transition.choice == k

-- This is the action of the first line of a choice.
abbrev pub first_action : List Row → ℕ → ℕ → Option (List ℕ)
first_action rows s k = option_map (λ row. row.action) (slice_get (filter (λ row. is_of s k row.transition) rows) 0)

-- The action differs from that of the first line of the choice.
abbrev pub clashes : List Row → Row → Bool
clashes before row = option_map_or (λ action. not (bytes_eq action row.action))
    (first_action before row.transition.source row.transition.choice) false

-- The answer is the row, or the fault if its action differs from that of the first row of its choice.
abbrev pub action_checked : List Row → Result Row TraCause → Result Row TraCause
action_checked before (Ok row) = if clashes before row then Err
    (ActionClash row.transition.source row.transition.choice) else Ok row
action_checked before (Err cause) = Err cause

-- The line says this row behind the rows before it, or has this fault.
abbrev pub line_said : Header → List Row → List (List ℕ) → Result Row TraCause
line_said header before fields =
    if is_nil fields then Err FieldCount
    else (if nat_lt (length before) header.lines then action_checked before (row_said header fields) else Err
    (LineCount (header.lines + 1) header.lines))

-- The answer is what the lines behind this row make, or the fault of the line with this number.
abbrev pub behind : ℕ → Result Row TraCause → (Row → Result (List Row) TraFault) → Result (List Row) TraFault
behind number (Ok row) more = more row
behind number (Err cause) more = Err (fault_at number cause)

-- These are all rows, or the first fault, if these lines, from this number on, come behind these rows.
abbrev pub rows_said : Header → ℕ → List Row → List (List ℕ) → Result (List Row) TraFault
rows_said header number before [] = if nat_lt (length before) header.lines then Err
    (fault_of_all (LineCount (length before) header.lines)) else Ok before
rows_said header number before (line ∷ lines) =
    behind number (line_said header before (fields_of line))
    (λ row. rows_said header (number + 1) (before ++ row ∷ []) lines)
