-- A text has a certificate of rewards if its lines spell the entries.
use Rattle.std.specs.Prelude.{◌≡◌, ℕ, ◌≤◌, List, [], ◌∷◌, length, Some, codes}
use Rattle.text_lines.specs.Text.{fields_of, number_of}
use Rattle.plan_text.specs.Fixed.{unit_digits}
use Rattle.plan_text.specs.Said.{entry_in_by}
use Rattle.plan_text.specs.Certificate.{IsCertificateBy}
use Rattle.reward_text.specs.Values.{value_in}
use Rattle.reward_text.specs.Entries.{RewardEntry, RewardCertificate, IsRewardEntry, AreBounds}

-- A line spells a state and its entry, whose bounds go together, and the entry is within the limits.
abbrev pub IsRewardLine : ℕ → ℕ → List ℕ → RewardEntry → Type 0
IsRewardLine places s line entry = (entry_in_by (value_in places) s (fields_of line) ≡ Some entry)
    × AreBounds entry.lower entry.upper × IsRewardEntry entry

-- The first line says `rewards`, the version 1, the places, of which there are at most 15, and the number of states.
pub record IsRewardHeading (places states : ℕ) (line : List ℕ) : Type 0 where
  pub digits : List ℕ
  pub count : List ℕ
  pub fields : fields_of line ≡ codes "rewards" ∷ codes "1" ∷ digits ∷ count ∷ []
  pub spelled : number_of digits ≡ Some places
  pub few : places ≤ unit_digits
  pub counted : number_of count ≡ Some states

-- The text has this certificate: lines that do not begin with the word, its first line, a line for each entry, and
-- blank lines.
abbrev pub IsRewardCertificate : List ℕ → RewardCertificate → Type 0
IsRewardCertificate text certificate = IsCertificateBy RewardEntry (codes "rewards")
    (IsRewardHeading certificate.places (length certificate.entries)) (IsRewardLine certificate.places) text
    certificate.entries
