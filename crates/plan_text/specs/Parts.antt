-- The parts of a certificate of any kind are read in turn.
use Rattle.std.specs.Prelude.{ℕ, ◌+◌, List, [], ◌∷◌, option_map, if◌then◌else◌, Result, Ok, Err}
use Rattle.text_lines.specs.Text.{fields_of, is_nil, saturated}
use Rattle.plan_text.specs.declared.fault.PlanFault.{PlanFault}
use Rattle.plan_text.specs.declared.fault.PlanCause.{PlanCause}
use Rattle.plan_text.specs.declared.fault.PlanCause.TheVariants.{BadLine, MissingLine}
use Rattle.plan_text.specs.Entries.{EntryOf}
use Rattle.plan_text.specs.Said.{fault_at, then_at, certificate_from_by}

-- A number that is too great for 64 bits becomes the greatest number of 64 bits. Of a value this is kept.
abbrev pub saturated_entry : {Value : Type 0} → (Value → Value) → EntryOf Value → EntryOf Value
saturated_entry kept entry = record {
  lower = kept entry.lower;
  choice = option_map saturated entry.choice;
  rank = saturated entry.rank;
  upper = kept entry.upper;
  reply = option_map saturated entry.reply;
}

-- This is the first of these lines that begins with the word, its number, and the lines behind it.
abbrev pub first_with : List ℕ → ℕ → List (List ℕ) → Result (List ℕ × ℕ × List (List ℕ)) PlanFault
first_with word = certificate_from_by word (λ line number lines. Ok (line, number, lines))

-- The first of these lines says an entry of this state, and the other lines follow.
abbrev pub first_said_by : {Entry : Type 0} → (ℕ → List ℕ → Result Entry PlanCause) → ℕ → ℕ → List (List ℕ)
    → Result (Entry × List (List ℕ)) PlanFault
first_said_by said s number [] = Err (fault_at number MissingLine)
first_said_by said s number (line ∷ lines) = then_at number (said s line) (λ entry. Ok (entry, lines))

-- All of these lines are blank, or the first that is not blank is at fault.
abbrev pub end_said : ℕ → List (List ℕ) → Result (Unit {0}) PlanFault
end_said number [] = Ok tt
end_said number (line ∷ lines) = if is_nil (fields_of line) then end_said (number + 1) lines else Err
    (fault_at number BadLine)
