-- This module defines the texts of a question of rewards.
use Rattle.std.specs.Prelude.{◌≡◌, ℕ, List, Option}
use Rattle.game_outside.specs.Outside.{Holding}
use Rattle.command_words.specs.Words.{Asked}
use Rattle.inputs.specs.Sources.{Sources, IfKnown, AreSources}

-- There are the texts of a question without rewards, and the text of the file of rewards, or none.
pub record RewardSources : Type 0 where
  pub plain : Sources
  pub rewards : Option (List ℕ)

-- If the holding is known, these are the texts that it has under the names of the words and of the file of rewards.
pub record AreRewardSources (holding : Option Holding) (asked : Asked) (name : List ℕ) (sources : RewardSources)
    : Type 0 where
  pub plain : AreSources holding asked sources.plain
  pub rewards : IfKnown holding (λ held. sources.rewards ≡ held name)
