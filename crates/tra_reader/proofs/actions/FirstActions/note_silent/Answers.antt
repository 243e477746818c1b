use Rattle.std.proofs.Common.{rules, ◌<◌, List, [], length, take, sym, subst}
use Rattle.transition_lines.specs.Lines.{Row}
use Rattle.tra_reader.specs.inside.Noted.{Notes, silent_rows}
use Rattle.tra_reader.proofs.Silence.{silent_more, with_action}
use Rattle.tra_reader.proofs.actions.FirstActions.note_silent.Goals as goal

pub loop-line-preserved : goal.loop-line-preserved
loop-line-preserved c = λ none.
    let ts = c.args.lines.now in
    let i = c.loop-line.line-index in
    let t = c.line-item.result in
    let within : i < length ts = search rules in
    let P : List Row → Type 0 = λ rows. Notes c.note.new.self rows in
    let noted = c.in_ok-note.ensures (silent_rows (take i ts)) (with_action t []) (search rules) (search rules)
    (c.loop-line.invariant none) in
    subst P (sym (silent_more ts i t within c.line-item.is)) noted.1
