-- This module defines the text that is written for a certificate.
use Rattle.std.specs.Prelude.{ℕ, ◌+◌, List, [], ◌∷◌, ◌++◌, length, Option, Some, None, codes, decimal}
use Rattle.plan_text.specs.Fixed.{fixed}
use Rattle.plan_text.specs.Entries.{EntryOf, Entry}

-- The text is a choice, or `-` if there is none.
abbrev pub choice_text : Option ℕ → List ℕ
choice_text None = codes "-"
choice_text (Some choice) = decimal choice

-- The field comes after a space.
abbrev pub behind_space : List ℕ → List ℕ
behind_space field = 32 ∷ field

-- The line of a state has six fields, two of which are texts of values.
abbrev pub entry_text_by : {Value : Type 0} → (Value → List ℕ) → ℕ → EntryOf Value → List ℕ
entry_text_by value_text s entry = decimal s ++ (behind_space (value_text entry.lower)
    ++ (behind_space (choice_text entry.choice) ++ (behind_space (decimal entry.rank)
    ++ (behind_space (value_text entry.upper) ++ (behind_space (choice_text entry.reply) ++ codes "\n")))))

-- The line of a state looks like `0 0.500000000000000 1 1 0.500000000000000 -`.
abbrev pub entry_text : ℕ → Entry → List ℕ
entry_text = entry_text_by fixed

-- Each of these states has a line, and the first state is s.
abbrev pub entry_lines_by : {Entry : Type 0} → (ℕ → Entry → List ℕ) → ℕ → List Entry → List ℕ
entry_lines_by line_text s [] = []
entry_lines_by line_text s (entry ∷ entries) = line_text s entry ++ entry_lines_by line_text (s + 1) entries

-- The lines are those of a certificate of probabilities.
abbrev pub entry_lines : ℕ → List Entry → List ℕ
entry_lines = entry_lines_by entry_text

-- The text has the line `certificate 2 N`, and a line for each of the N states.
abbrev pub certificate_text : List Entry → List ℕ
certificate_text entries = (codes "certificate 2 " ++ (decimal (length entries) ++ codes "\n")) ++ entry_lines 0 entries
