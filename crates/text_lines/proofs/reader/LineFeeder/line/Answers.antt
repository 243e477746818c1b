use Rattle.std.proofs.Common.{Err, rules}
use Rattle.text_lines.proofs.Fronts.{nil_is}
use Rattle.text_lines.proofs.BlankLines.{blank_waits, blank_refused}
use Rattle.text_lines.proofs.reader.LineFeeder.line.Goals as goal

pub returns-then-is_blank_line-clause-ok : goal.returns-then-is_blank_line-clause-ok
returns-then-is_blank_line-clause-ok g c lines answer behind =
    blank_waits (λ more. g.R.LineReader.answers c.args.self.now.reader c.args.self.now.next more answer) _ _ lines
    (nil_is _ (search rules)) behind

pub returns-then-self-gt0-clause-fault : goal.returns-then-self-gt0-clause-fault
returns-then-self-gt0-clause-fault g c lines =
    blank_refused (λ more. g.R.LineReader.answers c.args.self.now.reader c.args.self.now.next more (Err c.blank.result))
    _ _ lines c.if-self-gt0.true (search rules) c.blank.ensures
