use Rattle.std.proofs.Common.{◌∙◌, ap, length, eqb}
use Rattle.text_lines.proofs.Fronts.{blank_line}
use Rattle.text_lines.proofs.fields.is_blank_line.Goals as goal

pub returns : goal.returns
returns c = c.is_empty.ensures ∙ ap (λ t. eqb (length t) 0) c.behind_blanks.ensures ∙ blank_line c.args.line.now
