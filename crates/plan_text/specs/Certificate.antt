-- A text has a certificate if its lines spell the entries.
use Rattle.std.specs.Prelude.{◌≡◌, ℕ, ◌+◌, List, [], ◌∷◌, ◌++◌, length, Some, false, All, codes}
use Rattle.text_lines.specs.Text.{lines_of, fields_of, number_of}
use Rattle.plan_text.specs.declared.version.Version.{Version}
use Rattle.plan_text.specs.Entries.{Entry, IsInRange}
use Rattle.plan_text.specs.Versions.{version_text}
use Rattle.plan_text.specs.Said.{entry_in, begins_with}

-- A line spells a state and its entry, and the entry is within the limits.
abbrev pub IsEntryLine : Version → ℕ → List ℕ → Entry → Type 0
IsEntryLine version s line entry = (entry_in version s (fields_of line) ≡ Some entry) × IsInRange entry

-- Each of these entries has a line, and the first entry is that of state s.
abbrev pub AreLinesBy : {Entry : Type 0} → (ℕ → List ℕ → Entry → Type 0) → ℕ → List (List ℕ) → List Entry → Type 0
AreLinesBy IsLine s [] [] = Unit {0}
AreLinesBy IsLine s [] (entry ∷ entries) = ⊥
AreLinesBy IsLine s (line ∷ lines) [] = ⊥
AreLinesBy IsLine s (line ∷ lines) (entry ∷ entries) = IsLine s line entry × AreLinesBy IsLine (s + 1) lines entries

-- The lines are those of a certificate of this version.
abbrev pub AreEntryLines : Version → ℕ → List (List ℕ) → List Entry → Type 0
AreEntryLines version = AreLinesBy (IsEntryLine version)

-- The first line of a certificate says `certificate`, its version, and the number of states.
pub record IsFirstLine (version : Version) (states : ℕ) (line : List ℕ) : Type 0 where
  pub count : List ℕ
  pub fields : fields_of line ≡ codes "certificate" ∷ version_text version ∷ count ∷ []
  pub spelled : number_of count ≡ Some states

-- The text has a certificate of any kind, of these entries: lines that do not begin with its word, its first line, a
-- line for each entry, and blank lines.
pub record IsCertificateBy (Entry : Type 0) (word : List ℕ) (Opens : List ℕ → Type 0)
    (IsLine : ℕ → List ℕ → Entry → Type 0) (text : List ℕ) (entries : List Entry) : Type 0 where
  -- The lists have the lines that are passed over, the first line, the lines of the entries, and the blank lines.
  pub before : List (List ℕ)
  pub first : List ℕ
  pub states : List (List ℕ)
  pub behind : List (List ℕ)
  pub lines : lines_of text ≡ before ++ first ∷ (states ++ behind)
  pub passed_over : All (λ line. begins_with word (fields_of line) ≡ false) before
  pub opens : Opens first
  pub tells : AreLinesBy IsLine 0 states entries
  pub blank : All (λ line. fields_of line ≡ []) behind

-- The text has a certificate of probabilities, in one of its versions.
pub record IsCertificate (text : List ℕ) (entries : List Entry) : Type 0 where
  pub version : Version
  pub told : IsCertificateBy Entry (codes "certificate") (IsFirstLine version (length entries)) (IsEntryLine version)
      text entries
