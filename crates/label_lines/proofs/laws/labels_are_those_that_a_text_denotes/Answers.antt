use Rattle.label_lines.proofs.LabelLaws.{labels_of-found, labels_of-again}
use Rattle.label_lines.proofs.laws.labels_are_those_that_a_text_denotes.Goals as goal

pub returns : goal.returns
returns c = λ text n l. (labels_of-found text n l, labels_of-again text n l)
