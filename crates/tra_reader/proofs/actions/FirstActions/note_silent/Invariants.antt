use Rattle.std.proofs.Common.{take, []}
use Rattle.tra_reader.specs.inside.Noted.{Notes, silent_rows}
use Rattle.tra_reader.proofs.actions.FirstActions.note_silent.Given as goal

abbrev pub invariant-loop-line : goal.invariant-loop-line
invariant-loop-line l = Notes l.fn.self [] → Notes l.self (silent_rows (take l.line-index l.lines))
