use Rattle.numerals.specs.Spelling.{Quotient}
use Rattle.numerals.proofs.Spelled.{digits_room}
use Rattle.rewards_reader.proofs.Amounts.{large-spelled, short-quotient}
use Rattle.rewards_reader.proofs.large.large_quotient.Goals as goal

pub digits_onto-requires-clause-small : goal.digits_onto-requires-clause-small
digits_onto-requires-clause-small c =
    let short = large-spelled (Quotient c.args.above.now c.args.below.now) c.requires.large in
    digits_room _ (short-quotient c.args.above.now c.args.below.now short.0).0

pub digits_onto-requires-2-clause-small : goal.digits_onto-requires-2-clause-small
digits_onto-requires-2-clause-small c =
    let short = large-spelled (Quotient c.args.above.now c.args.below.now) c.requires.large in
    digits_room _ (short-quotient c.args.above.now c.args.below.now short.0).1
