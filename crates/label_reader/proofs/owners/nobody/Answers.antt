use Rattle.std.proofs.Common.{arith}
use Rattle.label_reader.proofs.owners.nobody.Goals as goal

pub returns : goal.returns
returns c = c.in_ok-owners.ensures.items_if_clones_equal (λ y h. grind (arith, h))
