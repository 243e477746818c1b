-- These definitions say what the words of a command on rewards denote.
use Rattle.std.specs.Prelude.{◌≡◌, ◌↔◌, ℕ, Bool, IsTrue, List, [], ◌∷◌, codes, Option, Some}
use Rattle.clap.specs.Words.{Text, fault_of}
use Rattle.command_words.specs.Grammar.{value_of}
use Rattle.command_words.specs.Words.{Asked, NamesFile, SayAsked, asked_of_words}
use Rattle.reward_words.specs.Grammar.{audit_reward_app, solve_reward_app}
use Rattle.reward_words.specs.declared.words.AuditRewardWords.{AuditRewardWords}
use Rattle.reward_words.specs.declared.words.SolveRewardWords.{SolveRewardWords}
use Rattle.reward_words.specs.declared.words.RewardWords.{RewardWords}
use Rattle.reward_words.specs.declared.words.RewardWords.TheVariants as variant

-- These definitions are what the words of each command say, by name.

-- The words of `audit` name the file of rewards and the file of a certificate.
pub record AuditReward : Type 0 where
  pub asked : Asked
  pub rewards : List ℕ
  pub certificate : List ℕ

-- The words of `solve` name the file of rewards.
pub record SolveReward : Type 0 where
  pub asked : Asked
  pub rewards : List ℕ
  pub plan : Bool

-- This is one of the two commands on rewards, with what its words say.
pub data RewardCommand : Type 0 where
  OfAuditReward : (audit : AuditReward) → RewardCommand
  OfSolveReward : (solve : SolveReward) → RewardCommand

-- These definitions say when the values of names say this.

-- The values of the names say this of `audit`.
pub record SayAuditReward (value : Text → Option Text) (audit : AuditReward) : Type 0 where
  pub asked : SayAsked value audit.asked
  pub rewards : NamesFile (value (codes "rewards")) audit.rewards
  pub certificate : NamesFile (value (codes "certificate")) audit.certificate

-- The values of the names say this of `solve`.
pub record SaySolveReward (value : Text → Option Text) (solve : SolveReward) : Type 0 where
  pub asked : SayAsked value solve.asked
  pub rewards : NamesFile (value (codes "rewards")) solve.rewards
  pub plan : IsTrue solve.plan ↔ (value (codes "plan") ≡ Some (codes "true"))

-- These definitions say when words denote a command.

-- The words after `audit` denote this: `clap` has no fault to find in them, and the values that it gives them say it.
-- So options may be anywhere, each once at most, with the value in the next word or after `=`. After `--` no word is an
-- option. Four words are left, and the file of rewards is named.
pub record AreAuditRewardWords (words : List Text) (audit : AuditReward) : Type 0 where
  pub taken : fault_of audit_reward_app words ≡ []
  pub said : SayAuditReward (value_of audit_reward_app words) audit

-- The words after `solve` denote this, in the same way. Three words are left, and the file of rewards is named.
pub record AreSolveRewardWords (words : List Text) (solve : SolveReward) : Type 0 where
  pub taken : fault_of solve_reward_app words ≡ []
  pub said : SaySolveReward (value_of solve_reward_app words) solve

-- This word names a command.
abbrev pub reward_name_of : RewardCommand → Text
reward_name_of (OfAuditReward audit) = codes "audit"
reward_name_of (OfSolveReward solve) = codes "solve"

-- The words after the name of a command denote it.
abbrev pub AreRewardWordsOf : RewardCommand → List Text → Type 0
AreRewardWordsOf (OfAuditReward audit) words = AreAuditRewardWords words audit
AreRewardWordsOf (OfSolveReward solve) words = AreSolveRewardWords words solve

-- These words denote this command: the first names it, and the others are its words.
pub record AreRewardCommand (words : List Text) (command : RewardCommand) : Type 0 where
  pub rest : List Text
  pub words_are : words ≡ reward_name_of command ∷ rest
  pub behind : AreRewardWordsOf command rest

-- These words denote a command on rewards.
abbrev pub DenoteRewardCommand : List Text → Type 0
DenoteRewardCommand words = (command : RewardCommand) × AreRewardCommand words command

-- These words denote no command on rewards.
abbrev pub AreNoRewardCommand : List Text → Type 0
AreNoRewardCommand words = (command : RewardCommand) → AreRewardCommand words command → ⊥

-- These definitions are what contracts see of words that were read.

-- Contracts see this of the words of `audit`.
abbrev pub audit_reward_of : AuditRewardWords → AuditReward
audit_reward_of words = record {
  asked = asked_of_words words.asked;
  rewards = words.rewards.now;
  certificate = words.certificate.now;
}

-- Contracts see this of the words of `solve`.
abbrev pub solve_reward_of : SolveRewardWords → SolveReward
solve_reward_of words = record {
  asked = asked_of_words words.asked;
  rewards = words.rewards.now;
  plan = words.plan;
}

-- Contracts see this of the words of a command on rewards.
abbrev pub reward_command_of : RewardWords → RewardCommand
reward_command_of (variant.Audit audit) = OfAuditReward (audit_reward_of audit)
reward_command_of (variant.Solve solve) = OfSolveReward (solve_reward_of solve)
