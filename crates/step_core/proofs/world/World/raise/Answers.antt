use Rattle.step_core.proofs.Worlds.{raised-world}
use Rattle.step_core.proofs.world.World.raise.Goals as goal

pub invariant_of-self : goal.invariant_of-self
invariant_of-self c =
    raised-world _ c.args.self.now c.args.view c.args.state c.args.to c.index_mut-2.result.now c.see.new.self
    c.self.view_is c.self.invariant c.requires
    c.index_mut-2.ensures.value c.see.ensures
