use Rattle.text_lines.proofs.FieldLaws.{fields_of-parted, fields_of-field}
use Rattle.text_lines.proofs.laws.fields_are_parted_by_blanks.Goals as goal

pub returns : goal.returns
returns c = record { parted = fields_of-parted; field = fields_of-field }
