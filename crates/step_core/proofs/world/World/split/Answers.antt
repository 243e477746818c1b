use Rattle.std.proofs.Common.{sym}
use Rattle.step_core.proofs.Worlds.{split-world}
use Rattle.step_core.proofs.world.World.split.Goals as goal

pub invariant_of-self-2 : goal.invariant_of-self-2
invariant_of-self-2 c =
    split-world _ c.args.self.now c.args.view c.in-Ok.copy c.push.new.self.items c.words-seen.result.now
    c.index.result.now c.self.view_is c.self.invariant (sym c.if-not-is_live.ensures)
    c.index.ensures c.words-seen.ensures c.in-Ok.ensures c.in-Ok-push.ensures.items
