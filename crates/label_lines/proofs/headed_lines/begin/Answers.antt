use Rattle.text_lines.specs.Text.{fields_of}
use Rattle.label_lines.proofs.Heads.{header_of-some}
use Rattle.label_lines.proofs.headed_lines.begin.Goals as goal

pub new-requires : goal.new-requires
new-requires g c = header_of-some c.kind.result (fields_of c.args.line.now) c.in-Ok.header c.in-Ok.ensures
