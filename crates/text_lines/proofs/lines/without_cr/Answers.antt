use Rattle.std.proofs.Common.{rules, refl}
use Rattle.text_lines.proofs.Endings.{ends_at_lf, ends_at_crlf}
use Rattle.text_lines.proofs.lines.without_cr.Goals as goal

pub returns-in-13-clause-line : goal.returns-in-13-clause-line
returns-in-13-clause-line c = ends_at_crlf _ _ c.requires (search rules) refl

pub returns-in_default-2-clause-line : goal.returns-in_default-2-clause-line
returns-in_default-2-clause-line c = ends_at_lf _ c.requires (search rules)
