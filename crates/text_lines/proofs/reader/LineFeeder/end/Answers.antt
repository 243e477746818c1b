use Rattle.text_lines.proofs.BlankLines.{at_end}
use Rattle.text_lines.proofs.reader.LineFeeder.end.Goals as goal

pub returns : goal.returns
returns g c = at_end (λ more. g.R.LineReader.answers c.args.self.reader c.args.self.next more c.finish.result) _
    (c.finish.ensures _)
