-- Each text of a command denotes a game, labels or owners, or has a first refusal.
use Rattle.std.specs.Prelude.{ℕ, List, [], ◌∷◌, length, replicate, codes, nat_lt, Option, Some, None, if◌then◌else◌}
use Rattle.text_lines.specs.Limits.{most_bytes}
use Rattle.game_model.specs.Game.{Distribution}
use Rattle.transition_lines.specs.Text.{game_of}
use Rattle.label_lines.specs.Labels.{Labelling}
use Rattle.label_lines.specs.Owners.{Ownership}
use Rattle.label_lines.specs.Texts.{labels_of, owners_of}
use Rattle.output.specs.declared.refusal.Text.{Text}
use Rattle.output.specs.declared.refusal.Text.TheVariants.{Tra, Lab, Own}
use Rattle.output.specs.declared.refusal.Refusal.TheVariants.{OfTra, OfLab, OfOwn, TooLong}
use Rattle.inputs.specs.Said.{Said, NotHeld, Refuses, Denoted, and_then, read_said}

-- These are the bytes of a text.
abbrev pub text_said : Text → Option (List ℕ) → Said (List ℕ)
text_said text None = NotHeld
text_said text (Some bytes) = if nat_lt most_bytes (length bytes) then Refuses (TooLong text) else Denoted bytes

-- This is the game of a transition text.
abbrev pub game_said : Option (List ℕ) → Said (List (List Distribution))
game_said source = and_then (text_said Tra source) (λ bytes. read_said OfTra (game_of bytes))

-- These are the labels of a label text for this many states.
abbrev pub labels_said : Option (List ℕ) → ℕ → Said Labelling
labels_said source states = and_then (text_said Lab source) (λ bytes. read_said OfLab (labels_of bytes states))

-- One player named `p0` owns all states.
abbrev pub single_owner : ℕ → Ownership
single_owner states = record { players = codes "p0" ∷ []; owners = replicate states 0 }

-- These are the owners of an owner text if a file is named. Without one, one player owns all states.
abbrev pub owners_said : Option (List ℕ) → Option (List ℕ) → ℕ → Said Ownership
owners_said None source states = Denoted (single_owner states)
owners_said (Some name) source states = and_then (text_said Own source)
    (λ bytes. read_said OfOwn (owners_of bytes states))
