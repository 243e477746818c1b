use Rattle.std.proofs.Common.{rules, ap, ◌∙◌, sym, ◌∷◌, []}
use Rattle.std.proofs.lemmas.List.{append-nil}
use Rattle.text_lines.specs.Text.{lines_of}
use Rattle.text_lines.proofs.LineLaws.{lines_of-last}
use Rattle.text_lines.proofs.lines.first_line.Goals as goal

pub returns-in-Some-clause-lines : goal.returns-in-Some-clause-lines
returns-in-Some-clause-lines c =
    ap lines_of (sym (append-nil c.args.text.now)) ∙ c.in-Some.ensures.line []
    ∙ ap (λ rest. c.in-Some.found.0.now ∷ lines_of rest) (append-nil c.in-Some.found.1.now)

pub returns-clause-lines : goal.returns-clause-lines
returns-clause-lines c = lines_of-last c.args.text.now (search rules) (search rules)
