use Rattle.std.proofs.Common.{rules, sym, subst, []}
use Rattle.text_lines.specs.Text.{lines_of, significant}
use Rattle.text_lines.proofs.reader.read_lines.Goals as goal

pub loop-line-init : goal.loop-line-init
loop-line-init g c = record {
  goes_on = λ answer behind.
      let counted = significant (lines_of c.args.text.now) in
      subst (λ reader. g.R.LineReader.answers reader 1 counted answer) c.new-feeder.ensures.reader
      (subst (λ number. g.R.LineReader.answers c.new-feeder.result.reader number counted answer)
      c.new-feeder.ensures.next
      (behind [] tt (sym c.new-feeder.ensures.blanks)));
  count = search rules;
}
