use Rattle.step_core.specs.declared.event.Event.TheVariants.{Won}
use Rattle.step_core.proofs.Told.{answer-lawful, answer-unlawful}
use Rattle.step_core.proofs.world.World.apply.Goals as goal

pub returns-in-Won-clause-lawful : goal.returns-in-Won-clause-lawful
returns-in-Won-clause-lawful c = rw c.in-Won.is (answer-lawful c.args.self.now
    (Won c.in-Won.view c.in-Won.state c.in-Won.from c.in-Won.to) c.win.result c.win.ensures.answer)

pub returns-in-Won-clause-unlawful : goal.returns-in-Won-clause-unlawful
returns-in-Won-clause-unlawful c =
    rw c.in-Won.is (answer-unlawful c.args.self.now (Won c.in-Won.view c.in-Won.state c.in-Won.from c.in-Won.to)
    c.win.result c.invariant.ensures.question c.win.ensures.answer)
