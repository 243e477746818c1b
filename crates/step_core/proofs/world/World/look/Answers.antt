use Rattle.step_core.proofs.Worlds.{looked-world}
use Rattle.step_core.proofs.world.World.look.Goals as goal

pub invariant_of-self : goal.invariant_of-self
invariant_of-self c =
    looked-world _ c.args.self.now c.args.view c.args.state c.index-word.result.now c.index_mut.result.now
    c.see.new.self c.self.view_is c.self.invariant c.requires.live c.requires.state
    c.index_mut.ensures.value c.index-word.ensures c.see.ensures
