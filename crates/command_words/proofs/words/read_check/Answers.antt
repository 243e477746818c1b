use Rattle.std.proofs.Common.{◌≡◌, [], map, subst, sym}
use Rattle.std.specs.String.{string_bytes}
use Rattle.clap.specs.Words.{App, fault_of}
use Rattle.command_words.proofs.Denoting.{check_denoted}
use Rattle.command_words.proofs.words.read_check.Goals as goal

pub returns-in-Some : goal.returns-in-Some
returns-in-Some c =
    let found = rw c.in-Some.is at c.in_ok-matches.ensures in
    check_denoted c.in_ok-check_command.field-0 c.in-Some.matches
    (map string_bytes c.args.words.now) c.check_words.result c.in_ok-check_command.ensures found c.check_words.ensures

pub returns-in-None : goal.returns-in-None
returns-in-None c =
    let fault = rw c.in-None.is at c.in_ok-matches.ensures in
    λ check are. fault (subst (λ (app : App). fault_of app (map string_bytes c.args.words.now) ≡ [])
    (sym c.in_ok-check_command.ensures) are.taken)
