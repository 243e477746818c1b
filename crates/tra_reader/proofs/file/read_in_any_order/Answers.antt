use Rattle.std.proofs.Common.{Some}
use Rattle.text_lines.specs.Text.{lines_of, significant}
use Rattle.transition_lines.specs.declared.fault.TraFault.{TraFault}
use Rattle.game_outside.specs.Answers.{AnswersOrWants}
use Rattle.transition_lines.specs.Faults.{IsOutOfMemory}
use Rattle.transition_lines.specs.Text.{game_of}
use Rattle.tra_reader.specs.inside.AnyOrder.{unordered_header, HoldsUnordered, IsRightInAnyOrder}
use Rattle.tra_reader.proofs.Taking.{right_whole, given}
use Rattle.tra_reader.proofs.FileAnswers.{reads_so}
use Rattle.tra_reader.proofs.file.read_in_any_order.Goals as goal

pub returns-clause-reads : goal.returns-clause-reads
unfolding game_of
returns-clause-reads g c =
    reads_so (g.H.Shelf.held c.args.shelf.now) c.args.name.now c.args.limit
    (λ text answer. IsRightInAnyOrder c.new-reader.result.held 1 (significant (lines_of text)) answer)
    (λ text answer. AnswersOrWants IsOutOfMemory (λ g. g) answer (game_of text))
    (λ text answer right. given answer (game_of text)
    (right_whole unordered_header HoldsUnordered (λ (f : TraFault). Some f)
    c.new-reader.result.held (significant (lines_of text)) answer c.new-reader.ensures right))
    c.read_lines_from.result c.read_lines_from.ensures.reads
