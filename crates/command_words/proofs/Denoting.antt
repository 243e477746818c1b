-- What is read of the words behind a command's name is what they denote.
use Rattle.std.proofs.Common.{◌≡◌, ◌∙◌, List, Option, Some, None, [], ap, subst, sym}
use Rattle.std.specs.Prelude.{MatchOption}
use Rattle.clap.specs.Words.{App, Row, Text, app_of, fault_of, first_of, found_of}
use Rattle.clap.specs.declared.builder.command.Command.{Command}
use Rattle.clap.specs.declared.parser.matches.ArgMatches.{ArgMatches}
use Rattle.clap.proofs.WalkLemmas.{first_value-rows}
use Rattle.command_words.specs.declared.words.AskedWords.{AskedWords}
use Rattle.command_words.specs.declared.words.AuditWords.{AuditWords}
use Rattle.command_words.specs.declared.words.CheckWords.{CheckWords}
use Rattle.command_words.specs.declared.words.MakeWords.{MakeWords}
use Rattle.command_words.specs.declared.words.SolveWords.{SolveWords}
use Rattle.command_words.specs.Grammar.{FindsIn, audit_app, check_app, make_app, solve_app, sure_app, value_in}
use Rattle.command_words.specs.Grammar.{value_of}
use Rattle.command_words.specs.Words.{Asked, Audit, Check, Make, Solve, AreAuditWords, AreCheckWords, AreMakeWords}
use Rattle.command_words.specs.Words.{AreSolveWords, AreSureWords, AreInRange, IsMakeInRange, SayAsked, SayAudit}
use Rattle.command_words.specs.Words.{SayCheck, SayMake, SaySolve, asked_of_words, audit_of, check_of, make_of}
use Rattle.command_words.specs.Words.{solve_of}
use Rattle.command_words.proofs.Ranges.{check_in_range, make_in_range}

-- the values that were found are those that the words give
pub values_found : (app : App) (command : Command) (words : List Text) (m : ArgMatches) → app_of command ≡ app
    → FindsIn command words m → ◌≡◌ {A = Text → Option Text} (value_in m) (value_of app words)
values_found app command words m same found =
    subst (λ (a : App). ◌≡◌ {A = Text → Option Text} (value_in m) (value_of a words)) same
    (λ i name. (first_value-rows (found_of m) name ∙ ap (λ (rs : List Row). first_of name rs) found.rows) i)

pub check_denoted : (command : Command) (m : ArgMatches) (words : List Text) (read : Option CheckWords)
    → app_of command ≡ check_app → FindsIn command words m
    → MatchOption read ((check : Check) → SayCheck (value_in m) check → AreInRange check → ⊥)
    (λ check. SayCheck (value_in m) (check_of check))
    → MatchOption read ((check : Check) → AreCheckWords words check → ⊥) (λ check. AreCheckWords words (check_of check))
check_denoted command m words None same found none = λ check are.
    none check (subst (λ (value : Text → Option Text). SayCheck value check)
    (sym (values_found check_app command words m same found)) are.said) are.in_range
check_denoted command m words (Some check) same found said = record {
  taken = subst (λ (a : App). fault_of a words ≡ []) same found.no_fault;
  said = subst (λ (value : Text → Option Text). SayCheck value (check_of check))
      (values_found check_app command words m same found) said;
  in_range = check_in_range command m (check_of check) same found.parsed said;
}

pub audit_denoted : (command : Command) (m : ArgMatches) (words : List Text) (read : Option AuditWords)
    → app_of command ≡ audit_app → FindsIn command words m → MatchOption read
    ((audit : Audit) → SayAudit (value_in m) audit → ⊥) (λ audit. SayAudit (value_in m) (audit_of audit))
    → MatchOption read ((audit : Audit) → AreAuditWords words audit → ⊥) (λ audit. AreAuditWords words (audit_of audit))
audit_denoted command m words None same found none = λ audit are.
    none audit (subst (λ (value : Text → Option Text). SayAudit value audit)
    (sym (values_found audit_app command words m same found)) are.said)
audit_denoted command m words (Some audit) same found said = record {
  taken = subst (λ (a : App). fault_of a words ≡ []) same found.no_fault;
  said = subst (λ (value : Text → Option Text). SayAudit value (audit_of audit))
      (values_found audit_app command words m same found) said;
}

pub solve_denoted : (command : Command) (m : ArgMatches) (words : List Text) (read : Option SolveWords)
    → app_of command ≡ solve_app → FindsIn command words m → MatchOption read
    ((solve : Solve) → SaySolve (value_in m) solve → ⊥) (λ solve. SaySolve (value_in m) (solve_of solve))
    → MatchOption read ((solve : Solve) → AreSolveWords words solve → ⊥) (λ solve. AreSolveWords words (solve_of solve))
solve_denoted command m words None same found none = λ solve are.
    none solve (subst (λ (value : Text → Option Text). SaySolve value solve)
    (sym (values_found solve_app command words m same found)) are.said)
solve_denoted command m words (Some solve) same found said = record {
  taken = subst (λ (a : App). fault_of a words ≡ []) same found.no_fault;
  said = subst (λ (value : Text → Option Text). SaySolve value (solve_of solve))
      (values_found solve_app command words m same found) said;
}

pub sure_denoted : (command : Command) (m : ArgMatches) (words : List Text) (read : Option AskedWords)
    → app_of command ≡ sure_app → FindsIn command words m → MatchOption read
    ((asked : Asked) → SayAsked (value_in m) asked → ⊥) (λ asked. SayAsked (value_in m) (asked_of_words asked))
    → MatchOption read ((asked : Asked) → AreSureWords words asked → ⊥)
    (λ asked. AreSureWords words (asked_of_words asked))
sure_denoted command m words None same found none = λ asked are.
    none asked (subst (λ (value : Text → Option Text). SayAsked value asked)
    (sym (values_found sure_app command words m same found)) are.said)
sure_denoted command m words (Some asked) same found said = record {
  taken = subst (λ (a : App). fault_of a words ≡ []) same found.no_fault;
  said = subst (λ (value : Text → Option Text). SayAsked value (asked_of_words asked))
      (values_found sure_app command words m same found) said;
}

pub make_denoted : (command : Command) (m : ArgMatches) (words : List Text) (read : Option MakeWords)
    → app_of command ≡ make_app → FindsIn command words m → MatchOption read
    ((make : Make) → SayMake (value_in m) make → IsMakeInRange make → ⊥) (λ make. SayMake (value_in m) (make_of make))
    → MatchOption read ((make : Make) → AreMakeWords words make → ⊥) (λ make. AreMakeWords words (make_of make))
make_denoted command m words None same found none = λ make are.
    none make (subst (λ (value : Text → Option Text). SayMake value make)
    (sym (values_found make_app command words m same found)) are.said) are.in_range
make_denoted command m words (Some make) same found said = record {
  taken = subst (λ (a : App). fault_of a words ≡ []) same found.no_fault;
  said = subst (λ (value : Text → Option Text). SayMake value (make_of make))
      (values_found make_app command words m same found) said;
  in_range = make_in_range command m (make_of make) same found.parsed said;
}
