-- These definitions say what the words of a command line denote.
use Rattle.std.specs.Prelude.{◌≡◌, ◌<◌, ◌≤◌, ◌↔◌, ℕ, Bool, IsTrue, List, [], ◌∷◌, length, codes, Option, Some, None}
use Rattle.std.specs.Prelude.{option_map}
use Rattle.std.specs.Str.Parse.{IsNumeral, digits_value, without_leading_plus}
use Rattle.clap.specs.Words.{Text, fault_of}
use Rattle.command_words.specs.Grammar.{check_app, audit_app, solve_app, make_app, sure_app, value_of}
use Rattle.command_words.specs.Limits.{most_rounds, most_workers, default_rounds, default_workers, most_seed}
use Rattle.command_words.specs.Limits.{least_states, most_states}
use Rattle.command_words.specs.declared.words.AskedWords.{AskedWords}
use Rattle.command_words.specs.declared.words.CheckWords.{CheckWords}
use Rattle.command_words.specs.declared.words.AuditWords.{AuditWords}
use Rattle.command_words.specs.declared.words.SolveWords.{SolveWords}
use Rattle.command_words.specs.declared.words.MakeWords.{MakeWords}
use Rattle.command_words.specs.declared.words.CommandWords.{CommandWords}
use Rattle.command_words.specs.declared.words.CommandWords.TheVariants as variant

-- These definitions are what the words of each command say, by name.

-- The words that ask a question are its files and its formula.
pub record Asked : Type 0 where
  pub tra : List ℕ
  pub lab : List ℕ
  pub formula : List ℕ
  pub own : Option (List ℕ)

-- These are the words of `check`.
pub record Check : Type 0 where
  pub asked : Asked
  pub rounds : ℕ
  pub workers : ℕ
  pub plan : Bool
  pub traps : Bool

-- These are the words of `audit`.
pub record Audit : Type 0 where
  pub asked : Asked
  pub certificate : List ℕ

-- The words of `solve` have a file of values to begin with, if one is named.
pub record Solve : Type 0 where
  pub asked : Asked
  pub values : Option (List ℕ)
  pub plan : Bool

-- The words of `make` have the seed of a game, and how many states it is to have.
pub record Make : Type 0 where
  pub seed : ℕ
  pub states : ℕ
  pub rounds : ℕ
  pub workers : ℕ

-- This is one of the five commands, with what its words say.
pub data Command : Type 0 where
  OfCheck : (check : Check) → Command
  OfAudit : (audit : Audit) → Command
  OfSolve : (solve : Solve) → Command
  OfMake : (make : Make) → Command
  OfSure : (asked : Asked) → Command

-- There are 0 to 1,000,000 rounds and 1 to 64 workers.
pub record AreRunLimits (rounds workers : ℕ) : Type 0 where
  pub few_rounds : rounds ≤ most_rounds
  pub some_workers : 1 ≤ workers
  pub few_workers : workers ≤ most_workers

-- The numbers of `check` are in their ranges.
abbrev pub AreInRange : Check → Type 0
AreInRange check = AreRunLimits check.rounds check.workers

-- The numbers of `make` are in their ranges: a seed from 1 to 2147483646, and 3 to 1,000,000 states.
pub record IsMakeInRange (make : Make) : Type 0 where
  pub some_seed : 1 ≤ make.seed
  pub low_seed : make.seed ≤ most_seed
  pub some_states : least_states ≤ make.states
  pub few_states : make.states ≤ most_states
  pub limits : AreRunLimits make.rounds make.workers

-- These definitions say when the values of names say this.

-- A value is given, and it is the name of a file: it is not empty.
pub record NamesFile (value : Option Text) (file : List ℕ) : Type 0 where
  pub given : value ≡ Some file
  pub named : 0 < length file

-- A file that is given has a name.
abbrev pub IsNamedWhereGiven : Option (List ℕ) → Type 0
IsNamedWhereGiven None = Unit {0}
IsNamedWhereGiven (Some file) = 0 < length file

-- The word spells the number as Rust reads one: digits, with or without a plus sign before them.
pub record Spells (word : List ℕ) (n : ℕ) : Type 0 where
  pub digits : IsNumeral 10 (without_leading_plus word)
  pub value : n ≡ digits_value 10 (without_leading_plus word)

-- A value is given, and its word spells the number.
pub record GivesNumber (value : Option Text) (n : ℕ) : Type 0 where
  pub word : List ℕ
  pub given : value ≡ Some word
  pub spelled : Spells word n

-- This is the number that the word of an option spells, or the default if it is not given.
abbrev pub IsNumber : ℕ → Option (List ℕ) → ℕ → Type 0
IsNumber default None n = n ≡ default
IsNumber default (Some word) n = Spells word n

-- The values of the names ask this. An empty formula is a formula.
pub record SayAsked (value : Text → Option Text) (asked : Asked) : Type 0 where
  pub tra : NamesFile (value (codes "tra")) asked.tra
  pub lab : NamesFile (value (codes "lab")) asked.lab
  pub formula : value (codes "formula") ≡ Some asked.formula
  pub own : asked.own ≡ value (codes "own")
  pub own_named : IsNamedWhereGiven asked.own

-- The values of the names say how far a run goes: 10,000 rounds and 4 workers if no word says them.
pub record SayRunLimits (value : Text → Option Text) (rounds workers : ℕ) : Type 0 where
  pub of_rounds : IsNumber default_rounds (value (codes "rounds")) rounds
  pub of_workers : IsNumber default_workers (value (codes "workers")) workers

-- The values of the names say this of `check`.
pub record SayCheck (value : Text → Option Text) (check : Check) : Type 0 where
  pub asked : SayAsked value check.asked
  pub limits : SayRunLimits value check.rounds check.workers
  pub plan : IsTrue check.plan ↔ (value (codes "plan") ≡ Some (codes "true"))
  pub traps : IsTrue check.traps ↔ (value (codes "traps") ≡ Some (codes "true"))

-- The values of the names say this of `audit`.
pub record SayAudit (value : Text → Option Text) (audit : Audit) : Type 0 where
  pub asked : SayAsked value audit.asked
  pub certificate : NamesFile (value (codes "certificate")) audit.certificate

-- The values of the names say this of `solve`.
pub record SaySolve (value : Text → Option Text) (solve : Solve) : Type 0 where
  pub asked : SayAsked value solve.asked
  pub values : solve.values ≡ value (codes "values")
  pub values_named : IsNamedWhereGiven solve.values
  pub plan : IsTrue solve.plan ↔ (value (codes "plan") ≡ Some (codes "true"))

-- The values of the names say this of `make`.
pub record SayMake (value : Text → Option Text) (make : Make) : Type 0 where
  pub seed : GivesNumber (value (codes "seed")) make.seed
  pub states : GivesNumber (value (codes "states")) make.states
  pub limits : SayRunLimits value make.rounds make.workers

-- These definitions say when words denote a command.

-- The words after `check` denote this: `clap` has no fault to find in them, and the values that it gives them say it.
-- So options may be anywhere, each once at most, with the value in the next word or after `=`. After `--` no word is an
-- option. Three words are left, and each number has 32 bits and is in its range.
pub record AreCheckWords (words : List Text) (check : Check) : Type 0 where
  pub taken : fault_of check_app words ≡ []
  pub said : SayCheck (value_of check_app words) check
  pub in_range : AreInRange check

-- The words after `audit` denote this, in the same way. Four words are left, and the owner file is the only option.
pub record AreAuditWords (words : List Text) (audit : Audit) : Type 0 where
  pub taken : fault_of audit_app words ≡ []
  pub said : SayAudit (value_of audit_app words) audit

-- The words after `solve` denote this, in the same way. Three words are left.
pub record AreSolveWords (words : List Text) (solve : Solve) : Type 0 where
  pub taken : fault_of solve_app words ≡ []
  pub said : SaySolve (value_of solve_app words) solve

-- The words after `make` denote this, in the same way. Two words are left, which are also numbers in their ranges.
pub record AreMakeWords (words : List Text) (make : Make) : Type 0 where
  pub taken : fault_of make_app words ≡ []
  pub said : SayMake (value_of make_app words) make
  pub in_range : IsMakeInRange make

-- The words after `sure` denote this, in the same way. Three words are left, and the owner file is the only option.
pub record AreSureWords (words : List Text) (asked : Asked) : Type 0 where
  pub taken : fault_of sure_app words ≡ []
  pub said : SayAsked (value_of sure_app words) asked

-- This word names a command.
abbrev pub name_of : Command → Text
name_of (OfCheck check) = codes "check"
name_of (OfAudit audit) = codes "audit"
name_of (OfSolve solve) = codes "solve"
name_of (OfMake make) = codes "make"
name_of (OfSure asked) = codes "sure"

-- The words after the name of a command denote it.
abbrev pub AreWordsOf : Command → List Text → Type 0
AreWordsOf (OfCheck check) words = AreCheckWords words check
AreWordsOf (OfAudit audit) words = AreAuditWords words audit
AreWordsOf (OfSolve solve) words = AreSolveWords words solve
AreWordsOf (OfMake make) words = AreMakeWords words make
AreWordsOf (OfSure asked) words = AreSureWords words asked

-- These words denote this command: the first names it, and the others are its words.
pub record AreCommand (words : List Text) (command : Command) : Type 0 where
  pub rest : List Text
  pub words_are : words ≡ name_of command ∷ rest
  pub behind : AreWordsOf command rest

-- These words denote a command.
abbrev pub DenoteCommand : List Text → Type 0
DenoteCommand words = (command : Command) × AreCommand words command

-- These words denote no command.
abbrev pub AreNoCommand : List Text → Type 0
AreNoCommand words = (command : Command) → AreCommand words command → ⊥

-- These definitions are what contracts see of words that were read.

-- Contracts see this of the words that ask a question.
abbrev pub asked_of_words : AskedWords → Asked
asked_of_words words = record {
  tra = words.tra.now;
  lab = words.lab.now;
  formula = words.formula.now;
  own = option_map (λ file. file.now) words.own;
}

-- Contracts see this of the words of `check`.
abbrev pub check_of : CheckWords → Check
check_of words = record {
  asked = asked_of_words words.asked;
  rounds = words.rounds;
  workers = words.workers;
  plan = words.plan;
  traps = words.traps;
}

-- Contracts see this of the words of `audit`.
abbrev pub audit_of : AuditWords → Audit
audit_of words = record { asked = asked_of_words words.asked; certificate = words.certificate.now }

-- Contracts see this of the words of `solve`.
abbrev pub solve_of : SolveWords → Solve
solve_of words = record {
  asked = asked_of_words words.asked;
  values = option_map (λ file. file.now) words.values;
  plan = words.plan;
}

-- Contracts see this of the words of `make`.
abbrev pub make_of : MakeWords → Make
make_of words = record { seed = words.seed; states = words.states; rounds = words.rounds; workers = words.workers }

-- Contracts see this of the words of a command.
abbrev pub command_of : CommandWords → Command
command_of (variant.Check check) = OfCheck (check_of check)
command_of (variant.Audit audit) = OfAudit (audit_of audit)
command_of (variant.Solve solve) = OfSolve (solve_of solve)
command_of (variant.Make make) = OfMake (make_of make)
command_of (variant.Sure asked) = OfSure (asked_of_words asked)
