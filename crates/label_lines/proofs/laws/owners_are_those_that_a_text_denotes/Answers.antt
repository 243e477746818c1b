use Rattle.label_lines.proofs.OwnerLaws.{owners_of-found, owners_of-again}
use Rattle.label_lines.proofs.laws.owners_are_those_that_a_text_denotes.Goals as goal

pub returns : goal.returns
returns c = λ text n o. (owners_of-found text n o, owners_of-again text n o)
