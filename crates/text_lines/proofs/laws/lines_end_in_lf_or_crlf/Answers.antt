use Rattle.text_lines.proofs.LineLaws.{lines_of-lf, lines_of-crlf, lines_of-last}
use Rattle.text_lines.proofs.laws.lines_end_in_lf_or_crlf.Goals as goal

pub returns : goal.returns
returns c = record { lf = lines_of-lf; crlf = lines_of-crlf; last = lines_of-last }
