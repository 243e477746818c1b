use Rattle.std.proofs.Common.{rules}
use Rattle.text_lines.proofs.Endings.{cut_at_lf, without_lf}
use Rattle.text_lines.proofs.lines.ended_line.Goals as goal

pub without_cr-requires : goal.without_cr-requires
without_cr-requires c = (cut_at_lf c.args.bytes.now c.in_ok-place.place (search rules)).no_lf

pub returns-in_err-place-clause-none : goal.returns-in_err-place-clause-none
returns-in_err-place-clause-none c is = without_lf c.args.bytes.now (search rules)
