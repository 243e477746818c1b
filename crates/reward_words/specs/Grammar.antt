-- `clap` reads the words after the name of a command on rewards in this way. After `audit` come `TRA LAB FORMULA CERT
-- --rewards FILE [--own FILE]`, and after `solve` come `TRA LAB FORMULA --rewards FILE [--own FILE] [--plan]`.
use Rattle.std.specs.Prelude.{codes, true}
use Rattle.clap.specs.Words.{App, Rule, Text, with_rule}
use Rattle.command_words.specs.Grammar.{asked_app, flag, option, positional}

-- This is an option with a value that must be given.
abbrev pub needed_option : Text → Rule
needed_option name = record (option name) { required = true }

-- This command asks a question on rewards, and names their file.
abbrev pub rewarded_app : Text → App
rewarded_app name = with_rule (asked_app name) (needed_option (codes "rewards"))

-- The words of `audit` also say the file of a certificate.
abbrev pub audit_reward_app : App
audit_reward_app = with_rule (rewarded_app (codes "audit")) (positional (codes "certificate"))

-- The words of `solve` also say whether the certificate is to be written.
abbrev pub solve_reward_app : App
solve_reward_app = with_rule (rewarded_app (codes "solve")) (flag (codes "plan"))
