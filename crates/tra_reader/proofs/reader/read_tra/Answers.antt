use Rattle.std.proofs.Common.{Ok, Err, Some, ap}
use Rattle.text_lines.specs.Text.{lines_of, significant}
use Rattle.tra_reader.specs.declared.stop.Stop.{Stop}
use Rattle.transition_lines.specs.declared.fault.TraFault.{TraFault}
use Rattle.transition_lines.specs.Text.{game_of, lines_game}
use Rattle.tra_reader.specs.inside.Ordered.{ordered_header, HoldsOrdered, text_fault}
use Rattle.tra_reader.specs.inside.AnyOrder.{unordered_header, HoldsUnordered}
use Rattle.tra_reader.proofs.Taking.{right_whole, given}
use Rattle.tra_reader.proofs.reader.read_tra.Goals as goal

pub returns-in-Ok : goal.returns-in-Ok
unfolding game_of
returns-in-Ok c = right_whole ordered_header HoldsOrdered text_fault c.new.result.held
    (significant (lines_of c.args.bytes.now)) (Ok c.in-Ok.game) c.new.ensures c.in-Ok.ensures

pub returns-in-Err-Refused : goal.returns-in-Err-Refused
unfolding game_of
returns-in-Err-Refused c =
    let right = right_whole ordered_header HoldsOrdered text_fault c.new.result.held
    (significant (lines_of c.args.bytes.now)) (Err c.in-Err-Refused.field-0) c.new.ensures c.in-Err-Refused.ensures in
    right c.in-Err-Refused.fault (ap (λ (stop : Stop). text_fault stop) c.in-Err-Refused.field-0-is)

pub returns-in-Err-OutOfOrder : goal.returns-in-Err-OutOfOrder
unfolding game_of
returns-in-Err-OutOfOrder c =
    let lines = significant (lines_of c.args.bytes.now) in
    let again = c.read_lines-in-Err-OutOfOrder in
    given again.result (lines_game lines) (right_whole unordered_header HoldsUnordered (λ (f : TraFault). Some f)
    c.new-in-Err-OutOfOrder.result.held lines again.result c.new-in-Err-OutOfOrder.ensures again.ensures)
