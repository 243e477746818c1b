use Rattle.step_core.proofs.Worlds.{opened-world}
use Rattle.step_core.proofs.world.World.start.Goals as goal

pub invariant_of-result : goal.invariant_of-result
invariant_of-result c =
    opened-world c.args.question.now c.in_ok-words.words.items c.as_slice.result.now c.in_ok-view.view
    c.new-views.result.items c.push.new.self.items c.invariant.ensures c.in_ok-words.ensures c.as_slice.ensures.value
    c.in_ok-view.ensures c.new-views.ensures.items c.in-Ok.ensures.items
