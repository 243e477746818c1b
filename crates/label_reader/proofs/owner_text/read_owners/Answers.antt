use Rattle.text_lines.specs.Text.{lines_of, significant}
use Rattle.label_lines.specs.declared.kind.FileKind.TheVariants.{OwnerFile}
use Rattle.label_reader.specs.inside.Behind.{AnswersBehind}
use Rattle.label_lines.specs.Texts.{ownership}
use Rattle.label_reader.specs.inside.Owned.{AreRead}
use Rattle.label_reader.proofs.FileAnswers.{says_exactly}
use Rattle.label_reader.proofs.FileSizes.{owners_of_text_sized}
use Rattle.label_reader.proofs.owner_text.read_owners.Goals as goal

pub returns-clause-sizes : goal.returns-clause-sizes
returns-clause-sizes c = owners_of_text_sized c.args.states c.args.bytes.now c.read_lines.result
    (says_exactly OwnerFile ownership c.args.states c.new.result.states c.new.result.behind
    (significant (lines_of c.args.bytes.now)) c.read_lines.result
    (λ t. AnswersBehind OwnerFile t.states (ownership t.states) t.header (λ read.
    AreRead t.states t.header read t.owners.items) 1 (significant (lines_of c.args.bytes.now)) c.read_lines.result)
    c.new.ensures.behind c.new.ensures.states c.read_lines.ensures)
