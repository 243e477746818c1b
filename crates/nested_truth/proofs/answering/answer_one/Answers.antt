use Rattle.std.proofs.Common.{length, ap}
use Rattle.nested_truth.proofs.Ways.{by-rounds, by-solver, plan-band}
use Rattle.nested_truth.proofs.answering.answer_one.Goals as goal

pub returns-in_ok-found-in-ByRounds-clause-answer : goal.returns-in_ok-found-in-ByRounds-clause-answer
returns-in_ok-found-in-ByRounds-clause-answer g c =
    let e = c.in_ok-found-in-ByRounds.ensures in
    by-rounds c.args.setting.way c.in-ByRounds.rounds c.in-ByRounds.is c.args.question.now c.args.bound
    c.args.starts.now c.in_ok-found-in-ByRounds.found.zero c.in_ok-found-in-ByRounds.found.bracket e.zero e.found

pub returns-in_ok-lower-in-BySolver-clause-answer : goal.returns-in_ok-lower-in-BySolver-clause-answer
returns-in_ok-lower-in-BySolver-clause-answer g c =
    by-solver c.args.setting.way c.in-BySolver.is c.args.question.now c.args.bound c.args.starts.now
    c.in_ok-lower-in-BySolver.field-0 c.in_ok-lower-in-BySolver.ensures

pub returns-in_ok-lower-in-BySolver-clause-band : goal.returns-in_ok-lower-in-BySolver-clause-band
returns-in_ok-lower-in-BySolver-clause-band g c =
    plan-band c.args.question.now (length c.args.setting.game.now) c.in_ok-lower-in-BySolver.field-0
    (ap length c.requires.game) c.in_ok-lower-in-BySolver.ensures
