use Rattle.text_lines.specs.Text.{lines_of, significant}
use Rattle.label_reader.proofs.FileAnswers.{reads_exactly}
use Rattle.label_reader.proofs.files.read_from.Goals as goal

pub returns-clause-reads : goal.returns-clause-reads
returns-clause-reads g c =
    reads_exactly g.B.BehindHeader.kind g.B.BehindHeader.make
    c.args.states c.new-reader.result.states c.new-reader.result.behind
    (λ text answer reader. g.B.LineReader.answers reader 1 (significant (lines_of text)) answer)
    c.new-reader.ensures.behind c.new-reader.ensures.states
    (g.H.Shelf.held c.args.shelf.now) c.args.name.now c.args.limit c.read_lines_from.result c.without_want.result
    c.without_want.ensures c.read_lines_from.ensures.reads
