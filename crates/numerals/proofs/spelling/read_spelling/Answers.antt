use Rattle.std.proofs.Common.{◌≡◌, rules}
use Rattle.std.specs.Prelude.{option_map}
use Rattle.numerals.specs.Spelling.{spelling_of}
use Rattle.numerals.specs.Written.{spelling_in}
use Rattle.numerals.proofs.Grammar.{spelled-digits}
use Rattle.numerals.proofs.spelling.read_spelling.Goals as goal

pub returns-clause-digits : goal.returns-clause-digits
returns-clause-digits c =
    let is : option_map spelling_in c.read_behind.result ≡ spelling_of c.args.text.now = search rules in
    spelled-digits c.args.text.now c.read_behind.result is
