use Rattle.std.proofs.Common.{arith}
use Rattle.rank_certificate.proofs.Standing.{Ranked-stands}
use Rattle.rank_certificate.proofs.table.rank_table_over.Goals as goal

pub returns-then-not-all_stand-clause-found : goal.returns-then-not-all_stand-clause-found
returns-then-not-all_stand-clause-found c (choices, ranks, h) =
    let all =
    c.all_stand.ensures.1 (Ranked-stands c.args.question.now c.args.values.now choices ranks c.invariant.ensures h) in
    grind (arith, all, c.if-not-all_stand.true)
