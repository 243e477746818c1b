use Rattle.std.proofs.Common.{rules, ◌++◌, ◌-◌, take, drop, sym, subst}
use Rattle.text_lines.specs.Text.{lines_of}
use Rattle.text_lines.specs.Laws.{HasNo, IsEndOf}
use Rattle.text_lines.specs.Blank.{IsRightFor}
use Rattle.game_outside.proofs.Endings.{end_held}
use Rattle.game_outside.proofs.line_text.LineText.push_line.Goals as goal

pub returns-clause-none : goal.returns-clause-none
returns-clause-none g c =
    subst (λ t. HasNo 10 t) (sym (end_held c.self.inside.piece.items c.self.inside.begin c.self.inside.end
    c.in_ok-rest.rest.now (search rules) (search rules)
    (subst (λ t. IsEndOf c.in_ok-rest.rest.now (take (c.self.inside.end - c.self.inside.begin)
    (drop c.self.inside.begin t))) c.deref.ensures.value c.in_ok-rest.ensures.rest))) (search rules)

pub returns-clause-ok : goal.returns-clause-ok
returns-clause-ok g c behind answer right =
    rw (← c.self.view_is) (rw c.deref.ensures.value at (c.in_ok-rest.ensures.ok behind answer)
    (subst (λ t. IsRightFor g.R.LineReader.answers c.feed_lines.new.feeder.reader c.feed_lines.new.feeder.next
    c.feed_lines.new.feeder.blanks (lines_of (t ++ behind)) answer)
    (end_held c.self.inside.piece.items c.self.inside.begin c.self.inside.end
    c.in_ok-rest.rest.now (search rules) (search rules)
    (subst (λ t. IsEndOf c.in_ok-rest.rest.now (take (c.self.inside.end - c.self.inside.begin)
    (drop c.self.inside.begin t))) c.deref.ensures.value c.in_ok-rest.ensures.rest)) right))
