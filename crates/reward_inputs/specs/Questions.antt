-- This module says what becomes of the texts under the names of a command with rewards.
use Rattle.std.specs.Prelude.{◌≡◌, ℕ, List, Option}
use Rattle.game_outside.specs.Outside.{Holding}
use Rattle.formula_sets.specs.Posing.{Model}
use Rattle.rewards_reader.specs.declared.line.RewardLine.{RewardLine}
use Rattle.rewards_reader.specs.Rewards.{HasRewards}
use Rattle.reward_formula.specs.Formula.{any_of}
use Rattle.reward_formula.specs.Rules.{Denotes}
use Rattle.command_words.specs.Words.{Asked}
use Rattle.inputs.specs.Said.{Said}
use Rattle.inputs.specs.Sources.{Sources, IfKnown, AreSources, sources_of}
use Rattle.reward_refusals.specs.declared.refusal.RewardRefusal.{RewardRefusal}
use Rattle.reward_inputs.specs.declared.loaded.LoadedRewards.{LoadedRewards}
use Rattle.reward_inputs.specs.Asks.{AsksRewards}
use Rattle.reward_inputs.specs.Posed.{RewardReading, RewardQuestion, rewards_read, rewards_posed, reward_question_said}
use Rattle.reward_inputs.specs.Said.{RewardSaid, NotHeld, Refuses, Denoted}
use Rattle.reward_inputs.specs.Seen.{reading_of}
use Rattle.reward_inputs.specs.Sources.{RewardSources, AreRewardSources}
use Rattle.reward_inputs.specs.Texts.{model_said}

-- 1. The question.

-- Some texts, with the words, ask this question of rewards. If the holding is known, they are the held ones.
pub record AsksIt (holding : Option Holding) (asked : Asked) (name : List ℕ) (question : RewardQuestion) : Type 0 where
  pub sources : RewardSources
  pub told : AreRewardSources holding asked name sources
  pub asks : AsksRewards sources asked question

-- This is the first refusal of some texts with the words. If the holding is known, they are the held ones.
pub record RefusesRewards (holding : Option Holding) (asked : Asked) (name : List ℕ) (refusal : RewardRefusal)
    : Type 0 where
  pub sources : RewardSources
  pub told : AreRewardSources holding asked name sources
  pub refuses : reward_question_said sources asked ≡ Refuses refusal

-- If the holding is known, it lacks a text that is needed, and the texts before that are accepted.
abbrev pub LacksRewards : Option Holding → Asked → List ℕ → Type 0
LacksRewards holding asked name = IfKnown holding
    (λ held. rewards_read (record { plain = sources_of held asked; rewards = held name }) asked ≡ NotHeld)

-- 2. What is read before the question is posed.

-- Some texts, with the words, say this of a game with labels and owners. If the holding is known, they are the held
-- ones.
pub record SaysModel (holding : Option Holding) (asked : Asked) (said : Said Model) : Type 0 where
  pub sources : Sources
  pub told : AreSources holding asked sources
  pub says : model_said sources asked ≡ said

-- Some texts, with the words, say this of a game, its rewards and a formula. If the holding is known, they are the held
-- ones.
pub record ReadsRewardsAs (holding : Option Holding) (asked : Asked) (name : List ℕ) (said : RewardSaid RewardReading)
    : Type 0 where
  pub sources : RewardSources
  pub told : AreRewardSources holding asked name sources
  pub says : rewards_read sources asked ≡ said

-- The texts and words say what was loaded, and its table has the rewards of their lines. Its formula is the one that the
-- words spell. The question that it poses is the one that is asked, and if it poses none, its refusal is that of the
-- question.
pub record ReadsRewards (holding : Option Holding) (asked : Asked) (name : List ℕ) (loaded : LoadedRewards)
    : Type 0 where
  pub lines : List RewardLine
  pub said : ReadsRewardsAs holding asked name (Denoted (reading_of loaded lines))
  pub has : HasRewards loaded.game lines loaded.rewards
  pub spelled : Denotes asked.formula (any_of loaded.formula)
  pub asks : (question : RewardQuestion) → rewards_posed (reading_of loaded lines) ≡ Denoted question
      → AsksIt holding asked name question
  pub refuses : (refusal : RewardRefusal) → rewards_posed (reading_of loaded lines) ≡ Refuses refusal
      → RefusesRewards holding asked name refusal
