use Rattle.std.proofs.Common.{rules}
use Rattle.fractions.proofs.ShortSaid.{point_decimal}
use Rattle.fractions.proofs.short.short_decimal.Goals as goal

pub returns-in-46 : goal.returns-in-46
returns-in-46 c = point_decimal c.args.text.now c.over_places-in-46.result c.in-46.len_at_least
    (search rules) c.over_places-in-46.ensures
