use Rattle.label_lines.specs.declared.kind.FileKind.TheVariants.{LabelFile}
use Rattle.label_lines.specs.declared.faults.LabCause.TheVariants.{BadField}
use Rattle.label_reader.specs.inside.Marked.{AreMarked}
use Rattle.label_lines.specs.Texts.{labelling, is_said}
use Rattle.label_reader.proofs.Blanks.{add_line-blank}
use Rattle.label_reader.proofs.Bodies.{AnswersBehind-fault}
use Rattle.label_reader.proofs.label_sets.LabelSetsLineReader.blank.Goals as goal

pub returns : goal.returns
returns c =
    let n = c.args.self.now.states in
    let items = c.args.self.now.header in
    rw c.at.ensures (λ line lines blank. AnswersBehind-fault LabelFile n (labelling n) items c.args.number line lines
    (λ read. AreMarked n items (is_said read) c.args.self.now.sets.items) BadField
    (λ read before. add_line-blank LabelFile n items read line blank))
