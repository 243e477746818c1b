-- What is read of the words behind a command's name is what they denote.
use Rattle.std.proofs.Common.{◌≡◌, List, Option, Some, None, [], subst, sym}
use Rattle.std.specs.Prelude.{MatchOption}
use Rattle.clap.specs.Words.{App, Text, app_of, fault_of}
use Rattle.clap.specs.declared.builder.command.Command.{Command}
use Rattle.clap.specs.declared.parser.matches.ArgMatches.{ArgMatches}
use Rattle.command_words.specs.Grammar.{FindsIn, value_in}
use Rattle.command_words.proofs.Denoting.{values_found}
use Rattle.reward_words.specs.declared.words.AuditRewardWords.{AuditRewardWords}
use Rattle.reward_words.specs.declared.words.SolveRewardWords.{SolveRewardWords}
use Rattle.reward_words.specs.Grammar.{audit_reward_app, solve_reward_app}
use Rattle.reward_words.specs.Words.{AuditReward, SolveReward, AreAuditRewardWords, AreSolveRewardWords}
use Rattle.reward_words.specs.Words.{SayAuditReward, SaySolveReward, audit_reward_of, solve_reward_of}

pub audit_denoted : (command : Command) (m : ArgMatches) (words : List Text) (read : Option AuditRewardWords)
    → app_of command ≡ audit_reward_app → FindsIn command words m → MatchOption read
    ((audit : AuditReward) → SayAuditReward (value_in m) audit → ⊥)
    (λ audit. SayAuditReward (value_in m) (audit_reward_of audit))
    → MatchOption read ((audit : AuditReward) → AreAuditRewardWords words audit → ⊥)
    (λ audit. AreAuditRewardWords words (audit_reward_of audit))
audit_denoted command m words None same found none = λ audit are.
    none audit (subst (λ (value : Text → Option Text). SayAuditReward value audit)
    (sym (values_found audit_reward_app command words m same found)) are.said)
audit_denoted command m words (Some audit) same found said = record {
  taken = subst (λ (a : App). fault_of a words ≡ []) same found.no_fault;
  said = subst (λ (value : Text → Option Text). SayAuditReward value (audit_reward_of audit))
      (values_found audit_reward_app command words m same found) said;
}

pub solve_denoted : (command : Command) (m : ArgMatches) (words : List Text) (read : Option SolveRewardWords)
    → app_of command ≡ solve_reward_app → FindsIn command words m → MatchOption read
    ((solve : SolveReward) → SaySolveReward (value_in m) solve → ⊥)
    (λ solve. SaySolveReward (value_in m) (solve_reward_of solve))
    → MatchOption read ((solve : SolveReward) → AreSolveRewardWords words solve → ⊥)
    (λ solve. AreSolveRewardWords words (solve_reward_of solve))
solve_denoted command m words None same found none = λ solve are.
    none solve (subst (λ (value : Text → Option Text). SaySolveReward value solve)
    (sym (values_found solve_reward_app command words m same found)) are.said)
solve_denoted command m words (Some solve) same found said = record {
  taken = subst (λ (a : App). fault_of a words ≡ []) same found.no_fault;
  said = subst (λ (value : Text → Option Text). SaySolveReward value (solve_reward_of solve))
      (values_found solve_reward_app command words m same found) said;
}
