use Rattle.std.proofs.Common.{map}
use Rattle.std.specs.String.{string_bytes}
use Rattle.command_words.proofs.Denoting.{make_denoted}
use Rattle.command_words.proofs.words.read_make.Goals as goal

pub returns-in-Some : goal.returns-in-Some
returns-in-Some c =
    let found = rw c.in-Some.is at c.in_ok-matches.ensures in
    make_denoted c.in_ok-make_command.field-0 c.in-Some.matches
    (map string_bytes c.args.words.now) c.make_words.result c.in_ok-make_command.ensures found c.make_words.ensures
