use Rattle.text_lines.specs.Text.{lines_of, significant}
use Rattle.label_lines.specs.declared.kind.FileKind.TheVariants.{LabelFile}
use Rattle.label_reader.specs.inside.Behind.{AnswersBehind}
use Rattle.label_lines.specs.Texts.{labelling, is_said}
use Rattle.label_reader.specs.inside.Marked.{AreMarked}
use Rattle.label_reader.proofs.FileAnswers.{says_exactly}
use Rattle.label_reader.proofs.FileSizes.{labels_of_text_sized}
use Rattle.label_reader.proofs.label_text.read_labels.Goals as goal

pub returns-clause-sizes : goal.returns-clause-sizes
returns-clause-sizes c = labels_of_text_sized c.args.states c.args.bytes.now c.read_lines.result
    (says_exactly LabelFile labelling c.args.states c.new.result.states c.new.result.behind
    (significant (lines_of c.args.bytes.now)) c.read_lines.result
    (λ s. AnswersBehind LabelFile s.states (labelling s.states) s.header
    (λ read. AreMarked s.states s.header (is_said read) s.sets.items) 1
    (significant (lines_of c.args.bytes.now)) c.read_lines.result)
    c.new.ensures.behind c.new.ensures.states c.read_lines.ensures)
