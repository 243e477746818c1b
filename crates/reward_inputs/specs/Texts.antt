-- The texts of a question of rewards denote a game with labels and owners, rewards and a formula, or have a first
-- refusal.
use Rattle.std.specs.Prelude.{ℕ, List, length, nat_lt, Option, Some, None, if◌then◌else◌}
use Rattle.text_lines.specs.Limits.{most_bytes}
use Rattle.game_model.specs.Game.{Distribution}
use Rattle.rewards_reader.specs.declared.line.RewardLine.{RewardLine}
use Rattle.rewards_reader.specs.Texts.{lines_said}
use Rattle.reward_formula.specs.Formula.{AnyTree}
use Rattle.reward_formula.specs.Grammar.{any_said}
use Rattle.label_lines.specs.Labels.{Labelling}
use Rattle.formula_sets.specs.Posing.{Model}
use Rattle.command_words.specs.Words.{Asked}
use Rattle.output.specs.declared.refusal.Refusal.TheVariants.{OfFormula}
use Rattle.inputs.specs.Said as plain
use Rattle.inputs.specs.Sources.{Sources}
use Rattle.inputs.specs.Texts.{game_said, labels_said, owners_said}
use Rattle.reward_refusals.specs.declared.refusal.RewardRefusal.TheVariants.{Shared, OfRewards, RewardsTooLong}
use Rattle.reward_inputs.specs.Said.{RewardSaid, NotHeld, Refuses, Denoted, and_then, read_said}

-- 1. The game with its labels and owners.

-- This is said when a game and its labels are known: the owners are read.
abbrev pub behind_labels : Sources → Asked → List (List Distribution) → Labelling → plain.Said Model
behind_labels sources asked game labels = plain.and_then (owners_said asked.own sources.own (length game))
    (λ owners. plain.Denoted (record { game = game; labels = labels; owners = owners }))

-- This is said when a game is known: the labels and then the owners are read.
abbrev pub behind_game : Sources → Asked → List (List Distribution) → plain.Said Model
behind_game sources asked game = plain.and_then (labels_said sources.lab (length game))
    (λ labels. behind_labels sources asked game labels)

-- The first texts say this together, or the first refusal, in the order game, labels, owners.
abbrev pub model_said : Sources → Asked → plain.Said Model
model_said sources asked = plain.and_then (game_said sources.tra) (λ game. behind_game sources asked game)

-- 2. The file of rewards.

-- These are the bytes of a file of rewards.
abbrev pub rewards_bytes : Option (List ℕ) → RewardSaid (List ℕ)
rewards_bytes None = NotHeld
rewards_bytes (Some bytes) = if nat_lt most_bytes (length bytes) then Refuses RewardsTooLong else Denoted bytes

-- These are the lines that give a game's rewards.
abbrev pub rewards_said : Option (List ℕ) → List (List Distribution) → RewardSaid (List RewardLine)
rewards_said source game = and_then (rewards_bytes source) (λ bytes. read_said OfRewards (lines_said game bytes))

-- 3. The formula.

-- This is the formula of a text.
abbrev pub formula_read : List ℕ → RewardSaid AnyTree
formula_read text = read_said (λ fault. Shared (OfFormula fault)) (any_said text)
