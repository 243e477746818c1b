use Rattle.std.proofs.Common.{◌^◌, arith}
use Rattle.fractions.proofs.Wide.{product_parts}
use Rattle.fractions.proofs.fraction.wide_product.Goals as goal

pub returns-clause-value : goal.returns-clause-value
returns-clause-value c = product_parts (2 ^ 64) c.args.a c.args.b (omega arith)
