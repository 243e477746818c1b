-- The text of a certificate for this many states says an entry for each state, or has a first fault.
use Rattle.std.specs.Prelude.{◌≡◌, ℕ, ◌+◌, ◌-◌, ◌*◌, ◌==◌, ◌&&◌, nat_le, bytes_eq, Bool, true, false, List, [], ◌∷◌}
use Rattle.std.specs.Prelude.{◌++◌, length, Option, Some, None, option_map, codes, if◌then◌else◌, Result, Ok, Err}
use Rattle.game_model.specs.Limits.{unit}
use Rattle.text_lines.specs.Text.{lines_of, fields_of, number_of, significant, is_digit, all_digits, is_nil, value_onto}
use Rattle.plan_text.specs.declared.fault.PlanFault.{PlanFault}
use Rattle.plan_text.specs.declared.fault.PlanCause.{PlanCause}
use Rattle.plan_text.specs.declared.fault.PlanCause.TheVariants.{OutOfMemory, NoCertificate, StateCount, BadLine}
use Rattle.plan_text.specs.declared.fault.PlanCause.TheVariants.{NumberOutOfRange, MissingLine}
use Rattle.plan_text.specs.declared.fault.PlanCause.TheVariants as cause
use Rattle.plan_text.specs.declared.version.Version.{Version}
use Rattle.plan_text.specs.Versions.{decimals_of, units_of_last_digit, version_in}
use Rattle.plan_text.specs.Entries.{EntryOf, Entry, greatest_choice, greatest_rank}

-- A value is a digit, a point and the decimals of the version. It is a count of units.
abbrev pub units_of : Version → List ℕ → Option ℕ
units_of version [] = None
units_of version (whole ∷ []) = None
units_of version (whole ∷ point ∷ digits) =
    if is_digit whole && point == 46 && length digits == decimals_of version && all_digits digits
    then Some ((whole - 48) * unit + value_onto 0 digits * units_of_last_digit version)
    else None

-- The field is a choice, or `-` for none.
abbrev pub choice_in : List ℕ → Option (Option ℕ)
choice_in field = if bytes_eq field (codes "-") then Some None else option_map Some (number_of field)

-- The field spells a number, and the number is n.
abbrev pub spells : ℕ → Option ℕ → Bool
spells n None = false
spells n (Some number) = number == n

-- Five fields give an entry: lower bound, choice, rank, upper bound and reply. There is none if one of the fields gives
-- nothing.
abbrev pub entry_from : {Value : Type 0} → Option Value → Option (Option ℕ) → Option ℕ → Option Value
    → Option (Option ℕ) → Option (EntryOf Value)
entry_from (Some lower) (Some choice) (Some rank) (Some upper) (Some reply) =
    Some (record { lower = lower; choice = choice; rank = rank; upper = upper; reply = reply })
entry_from lower choice rank upper reply = None

-- A line gives the entry of this state if it has six fields of the right form and the first spells the state. Two of
-- the fields are values.
abbrev pub entry_in_by : {Value : Type 0} → (List ℕ → Option Value) → ℕ → List (List ℕ) → Option (EntryOf Value)
entry_in_by value_in s (state ∷ lower ∷ choice ∷ rank ∷ upper ∷ reply ∷ []) =
    if spells s (number_of state) then entry_from (value_in lower) (choice_in choice) (number_of rank)
    (value_in upper) (choice_in reply) else None
entry_in_by value_in s fields = None

-- The values are those of the version.
abbrev pub entry_in : Version → ℕ → List (List ℕ) → Option Entry
entry_in version = entry_in_by (units_of version)

-- The number of a choice, if one is given, is at most the greatest.
abbrev pub is_small : Option ℕ → Bool
is_small None = true
is_small (Some choice) = nat_le choice greatest_choice

-- The bounds are values within their limit, and so are the choices and the rank.
abbrev pub is_in_range_by : {Value : Type 0} → (Value → Bool) → EntryOf Value → Bool
is_in_range_by is_value entry = is_value entry.lower && is_value entry.upper && is_small entry.choice
    && is_small entry.reply && nat_le entry.rank greatest_rank

-- A value is at most the unit.
abbrev pub is_in_range : Entry → Bool
is_in_range = is_in_range_by (λ value. nat_le value unit)

-- A line has an entry, or it has none because it does not have the form of an entry or because a number is out of
-- range.
abbrev pub judged_by : {Entry : Type 0} → (Entry → Bool) → Option Entry → Result Entry PlanCause
judged_by fits None = Err BadLine
judged_by fits (Some entry) = if fits entry then Ok entry else Err NumberOutOfRange

-- The entry of a certificate of probabilities is judged by its range.
abbrev pub judged : Option Entry → Result Entry PlanCause
judged = judged_by is_in_range

-- The line says an entry of this state, or has a fault.
abbrev pub line_said : Version → ℕ → List ℕ → Result Entry PlanCause
line_said version s line = judged (entry_in version s (fields_of line))

-- The fault has this cause, at the line of this number. Lines count from 1. Line 0 means the whole text.
abbrev pub fault_at : ℕ → PlanCause → PlanFault
fault_at line cause = record { line = line; cause = cause }

-- If the line of this number has no fault, the next result follows.
abbrev pub then_at : {X Y : Type 0} → ℕ → Result X PlanCause → (X → Result Y PlanFault) → Result Y PlanFault
then_at number (Ok x) next = next x
then_at number (Err cause) next = Err (fault_at number cause)

-- The entries are those before these lines and those of the lines, the first of which has this number. A line says the
-- entry of a state, or has a fault. All lines after the last state's line have to be blank.
abbrev pub entries_from_by : {Entry : Type 0} → (ℕ → List ℕ → Result Entry PlanCause) → ℕ → List Entry → ℕ
    → List (List ℕ) → Result (List Entry) PlanFault
entries_from_by said states before number [] = if length before ==
    states then Ok before else Err (fault_at number MissingLine)
entries_from_by said states before number (line ∷ lines) =
    if length before == states
    then (if is_nil (fields_of line) then entries_from_by said states before (number + 1) lines else Err
    (fault_at number BadLine))
    else then_at number (said (length before) line)
    (λ entry. entries_from_by said states (before ++ entry ∷ []) (number + 1) lines)

-- The lines are those of a certificate of this version.
abbrev pub entries_from : Version → ℕ → List Entry → ℕ → List (List ℕ) → Result (List Entry) PlanFault
entries_from version = entries_from_by (line_said version)

-- The version is accepted if it is known and the count is the number of states that was asked for.
abbrev pub counted : ℕ → ℕ → Option Version → Result Version PlanCause
counted states count None = Err cause.Version
counted states count (Some version) = if count == states then Ok version else Err StateCount

-- The first line names a version and a number of states. The form of the number is checked first.
abbrev pub heading_said : ℕ → List ℕ → Option ℕ → Result Version PlanCause
heading_said states name None = Err BadLine
heading_said states name (Some count) = counted states count (version_in name)

-- The first line of a certificate has three fields, and the second one names the version.
abbrev pub header_said : ℕ → List (List ℕ) → Result Version PlanCause
header_said states (word ∷ name ∷ count ∷ []) = heading_said states name (number_of count)
header_said states fields = Err BadLine

-- The first of the fields is this word.
abbrev pub begins_with : List ℕ → List (List ℕ) → Bool
begins_with word [] = false
begins_with word (name ∷ fields) = bytes_eq name word

-- The first field is `certificate`.
abbrev pub is_heading : List (List ℕ) → Bool
is_heading = begins_with (codes "certificate")

-- A certificate begins at the first of these lines whose first field is this word. The first of the lines has this
-- number. What the text says from there on is said of that line, its number and the lines behind it.
abbrev pub certificate_from_by : {Answer : Type 0} → List ℕ
    → (List ℕ → ℕ → List (List ℕ) → Result Answer PlanFault) → ℕ → List (List ℕ) → Result Answer PlanFault
certificate_from_by word said number [] = Err (fault_at 0 NoCertificate)
certificate_from_by word said number (line ∷ lines) =
    if begins_with word (fields_of line) then said line number lines
    else certificate_from_by word said (number + 1) lines

-- The certificate of this many states has this first line, of this number, and the other lines are behind it.
abbrev pub said_behind : ℕ → List ℕ → ℕ → List (List ℕ) → Result (List Entry) PlanFault
said_behind states line number lines = then_at number (header_said states (fields_of line))
    (λ version. entries_from version states [] (number + 1) lines)

-- The certificate begins at the first of these lines whose first field is `certificate`. The first of the lines has
-- this number.
abbrev pub certificate_from : ℕ → ℕ → List (List ℕ) → Result (List Entry) PlanFault
certificate_from states = certificate_from_by (codes "certificate") (said_behind states)

-- The text gives the entries for this many states, or its first fault.
abbrev pub entries_said : List ℕ → ℕ → Result (List Entry) PlanFault
entries_said text states = certificate_from states 1 (significant (lines_of text))

-- Memory ran out, which is no fault of the text.
abbrev pub IsOutOfMemory : PlanFault → Type 0
IsOutOfMemory fault = fault ≡ fault_at 0 OutOfMemory
