-- The text of a certificate of rewards for this many states says its places and an entry for each state, or has a first
-- fault.
use Rattle.std.specs.Prelude.{ℕ, ◌+◌, ◌==◌, nat_le, bytes_eq, Bool, true, false, List, [], ◌∷◌, Option, Some, None}
use Rattle.std.specs.Prelude.{codes}
use Rattle.std.specs.Prelude.{if◌then◌else◌, Result, Ok, Err}
use Rattle.text_lines.specs.Text.{lines_of, fields_of, number_of, significant}
use Rattle.plan_text.specs.declared.fault.PlanFault.{PlanFault}
use Rattle.plan_text.specs.declared.fault.PlanCause.{PlanCause}
use Rattle.plan_text.specs.declared.fault.PlanCause.TheVariants.{StateCount, BadLine, Places}
use Rattle.plan_text.specs.declared.fault.PlanCause.TheVariants as cause
use Rattle.plan_text.specs.Fixed.{unit_digits}
use Rattle.plan_text.specs.Said.{then_at, entry_in_by, is_in_range_by, judged_by, entries_from_by, certificate_from_by}
use Rattle.reward_text.specs.Values.{value_in, is_value}
use Rattle.reward_text.specs.Entries.{RewardEntry, RewardCertificate}

-- A lower value that is infinite has no number above it.
abbrev pub are_bounds : Option ℕ → Option ℕ → Bool
are_bounds None (Some upper) = false
are_bounds lower upper = true

-- An entry has bounds that go together.
abbrev pub with_bounds : Option RewardEntry → Option RewardEntry
with_bounds None = None
with_bounds (Some entry) = if are_bounds entry.lower entry.upper then Some entry else None

-- A line gives the entry of this state if it has six fields of the right form and its bounds go together.
abbrev pub reward_entry_in : ℕ → ℕ → List (List ℕ) → Option RewardEntry
reward_entry_in places s fields = with_bounds (entry_in_by (value_in places) s fields)

-- The line says an entry of this state, or has a fault.
abbrev pub reward_line_said : ℕ → ℕ → List ℕ → Result RewardEntry PlanCause
reward_line_said places s line = judged_by (is_in_range_by is_value) (reward_entry_in places s (fields_of line))

-- The places are accepted if there are at most 15 and the count is the number of states that was asked for.
abbrev pub counted_places : ℕ → ℕ → ℕ → Result ℕ PlanCause
counted_places states places count =
    if nat_le places unit_digits then (if count == states then Ok places else Err StateCount) else Err Places

-- The first line names the version, the places and a number of states. The form of the numbers is checked first.
abbrev pub numbers_said : ℕ → List ℕ → Option ℕ → Option ℕ → Result ℕ PlanCause
numbers_said states version (Some places) (Some count) =
    if bytes_eq version (codes "1") then counted_places states places count else Err cause.Version
numbers_said states version places count = Err BadLine

-- The first line of a certificate of rewards has four fields.
abbrev pub reward_header_said : ℕ → List (List ℕ) → Result ℕ PlanCause
reward_header_said states (word ∷ version ∷ places ∷ count ∷ []) =
    numbers_said states version (number_of places) (number_of count)
reward_header_said states fields = Err BadLine

-- The entries that were read make a certificate of so many places.
abbrev pub with_places : ℕ → Result (List RewardEntry) PlanFault → Result RewardCertificate PlanFault
with_places places (Ok entries) = Ok (record { places = places; entries = entries })
with_places places (Err fault) = Err fault

-- The certificate of this many states has this first line, of this number, and the other lines are behind it.
abbrev pub rewards_behind : ℕ → List ℕ → ℕ → List (List ℕ) → Result RewardCertificate PlanFault
rewards_behind states line number lines = then_at number (reward_header_said states (fields_of line))
    (λ places. with_places places (entries_from_by (reward_line_said places) states [] (number + 1) lines))

-- The text gives the certificate for this many states, or its first fault.
abbrev pub rewards_said : List ℕ → ℕ → Result RewardCertificate PlanFault
rewards_said text states =
    certificate_from_by (codes "rewards") (rewards_behind states) 1 (significant (lines_of text))
