use Rattle.std.proofs.Common.{◌<◌, length, arith}
use Rattle.fixed_bellman.proofs.Tables.{row-fits}
use Rattle.rank_certificate.proofs.asked.Asked.pays.Goals as goal

pub gives-requires-clause-inside : goal.gives-requires-clause-inside
gives-requires-clause-inside c =
    let a = c.args.self.now in
    row-fits a.question.now c.args.state c.args.choice c.args.row.now (λ t. t < length a.values.now) a.posed
    c.requires.state c.requires.row c.requires.choice (λ t inside. omega (arith, inside, a.valued))

pub returns : goal.returns
returns c = rw c.requires.row at c.gives.ensures
