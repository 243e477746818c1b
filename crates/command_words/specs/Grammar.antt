-- `clap` reads the words after the name of a command in this way. After `check` come `TRA LAB FORMULA [--own FILE]
-- [--rounds R] [--workers W] [--plan] [--traps]`, and after `audit` come `TRA LAB FORMULA CERT [--own FILE]`. After
-- `solve` come `TRA LAB FORMULA [--own FILE] [--values FILE] [--plan]`. After `make` come `SEED STATES [--rounds R]
-- [--workers W]`, and after `sure` come `TRA LAB FORMULA [--own FILE]`.
use Rattle.std.specs.Prelude.{◌≡◌, ℕ, List, [], codes, pos, true, Option, Some}
use Rattle.clap.specs.Words.{App, IsParsedFrom, Rule, Text, app_of, fault_of, first_of, first_value, found_of}
use Rattle.clap.specs.Words.{matches_of, new_app, new_rule, rows_of, with_rule}
use Rattle.clap.specs.declared.builder.ArgAction.TheVariants.{SetTrue}
use Rattle.clap.specs.declared.builder.command.Command.{Command}
use Rattle.clap.specs.declared.builder.value_parser.ValueParser.TheVariants as vp
use Rattle.clap.specs.declared.parser.matches.ArgMatches.{ArgMatches}
use Rattle.command_words.specs.Limits.{most_rounds, most_workers, most_seed, least_states, most_states}

-- This word must be given, and is known by its place.
abbrev pub positional : Text → Rule
positional name = record (new_rule name) { required = true }

-- This is an option with a value.
abbrev pub option : Text → Rule
option name = record (new_rule name) { long = Some name }

-- The value is a number in a range.
abbrev pub with_range : Rule → ℕ → ℕ → Rule
with_range rule low high = record rule { parser = Some (vp.Signed (pos low) (pos high)) }

-- This is an option without a value.
abbrev pub flag : Text → Rule
flag name = record (option name) { action = Some SetTrue }

-- The name of this command is read already, and the command knows no `--help`.
abbrev pub bare_app : Text → App
bare_app name = let a = new_app name in record a {
  top = record a.top
      { no_binary_name = true; disable_help_flag = true };
}

-- This command asks a question.
abbrev pub asked_app : Text → App
asked_app name = with_rule (with_rule (with_rule (with_rule (bare_app name)
    (positional (codes "tra"))) (positional (codes "lab"))) (positional (codes "formula"))) (option (codes "own"))

-- This command also says how far a run goes: its rounds, and the workers of a round.
abbrev pub with_run_limits : App → App
with_run_limits app = with_rule (with_rule app (with_range (option (codes "rounds")) 0 most_rounds))
    (with_range (option (codes "workers")) 1 most_workers)

-- The words of `check` say a question, how far the run goes, whether the certificate is to be written, and whether
-- upper bounds are to be lowered to the best exits of traps.
abbrev pub check_app : App
check_app = with_rule (with_rule (with_run_limits (asked_app (codes "check"))) (flag (codes "plan")))
    (flag (codes "traps"))

-- The words of `audit` say a question, and the file of a certificate.
abbrev pub audit_app : App
audit_app = with_rule (asked_app (codes "audit")) (positional (codes "certificate"))

-- The words of `solve` say a question, a file of values to begin with, and whether the certificate is to be written.
abbrev pub solve_app : App
solve_app = with_rule (with_rule (asked_app (codes "solve")) (option (codes "values"))) (flag (codes "plan"))

-- The words of `sure` say only a question.
abbrev pub sure_app : App
sure_app = asked_app (codes "sure")

-- The words of `make` say the seed of a game, how many states it is to have, and how far the run goes.
abbrev pub make_app : App
make_app = with_run_limits (with_rule (with_rule (bare_app (codes "make"))
    (with_range (positional (codes "seed")) 1 most_seed))
    (with_range (positional (codes "states")) least_states most_states))

-- This is the value that words give to a name, if they give one. A flag has the value `true` if it is given.
abbrev pub value_of : App → List Text → Text → Option Text
value_of app words name = first_of name (matches_of app words)

-- This is the value that was found under a name.
abbrev pub value_in : ArgMatches → Text → Option Text
value_in matches name = first_value (found_of matches) name

-- A command has no fault to find in words, and finds this in them.
pub record FindsIn (command : Command) (words : List Text) (matches : ArgMatches) : Type 0 where
  pub no_fault : fault_of (app_of command) words ≡ []
  pub rows : rows_of (found_of matches) ≡ matches_of (app_of command) words
  pub parsed : IsParsedFrom command matches
