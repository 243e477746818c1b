use Rattle.label_lines.specs.declared.kind.FileKind.TheVariants.{OwnerFile}
use Rattle.label_lines.specs.declared.faults.LabCause.TheVariants.{BadField}
use Rattle.label_reader.specs.inside.Owned.{AreRead}
use Rattle.label_lines.specs.Texts.{ownership}
use Rattle.label_reader.proofs.Blanks.{add_line-blank}
use Rattle.label_reader.proofs.Bodies.{AnswersBehind-fault}
use Rattle.label_reader.proofs.owner_table.OwnerTableLineReader.blank.Goals as goal

pub returns : goal.returns
returns c =
    let n = c.args.self.now.states in
    let items = c.args.self.now.header in
    rw c.at.ensures (λ line lines blank. AnswersBehind-fault OwnerFile n (ownership n) items c.args.number line lines
    (λ read. AreRead n items read c.args.self.now.owners.items) BadField
    (λ read before. add_line-blank OwnerFile n items read line blank))
