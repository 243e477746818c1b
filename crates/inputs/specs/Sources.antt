-- This module defines the texts of the question that a command names.
use Rattle.std.specs.Prelude.{◌≡◌, ℕ, List, Option, Some, None}
use Rattle.game_outside.specs.Outside.{Holding}
use Rattle.command_words.specs.Words.{Asked}

-- Each file of the question has a text, or none.
pub record Sources : Type 0 where
  pub tra : Option (List ℕ)
  pub lab : Option (List ℕ)
  pub own : Option (List ℕ)

-- This is held under the name of an owner file, if one is named.
abbrev pub held_own : Option (List ℕ) → Holding → Option (List ℕ)
held_own None held = None
held_own (Some name) held = held name

-- These are held under the names of the question's files.
abbrev pub sources_of : Holding → Asked → Sources
sources_of held asked = record { tra = held asked.tra; lab = held asked.lab; own = held_own asked.own held }

-- If the holding is known, it has P.
abbrev pub IfKnown : Option Holding → (Holding → Type 0) → Type 0
IfKnown None P = Unit {0}
IfKnown (Some held) P = P held

-- If the holding is known, these are the texts that it has under those names.
abbrev pub AreSources : Option Holding → Asked → Sources → Type 0
AreSources holding asked sources = IfKnown holding (λ held. sources ≡ sources_of held asked)

-- This is true of a source under a name. If the holding is known, it is the held one.
pub record SourceWith (holding : Option Holding) (name : List ℕ) (IsSo : Option (List ℕ) → Type 0) : Type 0 where
  pub source : Option (List ℕ)
  pub told : IfKnown holding (λ held. source ≡ held name)
  pub is_so : IsSo source
