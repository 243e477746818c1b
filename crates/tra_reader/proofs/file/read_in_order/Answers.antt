use Rattle.text_lines.specs.Text.{lines_of, significant}
use Rattle.transition_lines.specs.Text.{game_of}
use Rattle.tra_reader.specs.inside.Reading.{IsAnswer}
use Rattle.tra_reader.specs.inside.Ordered.{ordered_header, HoldsOrdered, text_fault, IsRightInOrder}
use Rattle.tra_reader.proofs.Taking.{right_whole}
use Rattle.tra_reader.proofs.FileAnswers.{reads_so}
use Rattle.tra_reader.proofs.file.read_in_order.Goals as goal

pub returns-clause-reads : goal.returns-clause-reads
unfolding game_of
returns-clause-reads g c =
    reads_so (g.H.Shelf.held c.args.shelf.now) c.args.name.now c.args.limit
    (λ text answer. IsRightInOrder c.new-reader.result.held 1 (significant (lines_of text)) answer)
    (λ text answer. IsAnswer text_fault answer (game_of text))
    (λ text answer right. right_whole ordered_header HoldsOrdered text_fault c.new-reader.result.held
    (significant (lines_of text)) answer c.new-reader.ensures right)
    c.read_lines_from.result c.read_lines_from.ensures.reads
