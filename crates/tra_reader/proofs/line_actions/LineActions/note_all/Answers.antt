use Rattle.std.proofs.Common.{rules, ◌≡◌, ◌∙◌, Bool, true, List, sym, ap, subst}
use Rattle.transition_lines.specs.Lines.{Row}
use Rattle.tra_reader.specs.inside.Noted.{Notes, NotesIf, silent_rows}
use Rattle.tra_reader.proofs.Silence.{silent_is}
use Rattle.tra_reader.proofs.line_actions.LineActions.note_all.Goals as goal

pub returns-clause-noted : goal.returns-clause-noted
returns-clause-noted c = λ rows is notes.
    let silent : c.args.self.now.silent ≡ true = search rules in
    let P : Bool → Type 0 = λ b. NotesIf b c.args.self.now.first rows in
    let parts : NotesIf true c.args.self.now.first rows = subst P silent notes in
    let N : List Row → Type 0 = λ rs. Notes c.note_silent.new.self rs in
    subst N (ap silent_rows (sym is) ∙ sym (silent_is rows parts.1)) (c.in_ok-note_silent.ensures parts.0)
