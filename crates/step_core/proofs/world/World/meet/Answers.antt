use Rattle.std.proofs.Common.{◌≡◌, ℕ, List, get_or, sym, ◌∙◌, subst}
use Rattle.std.specs.Prelude.{Option}
use Rattle.step_core.proofs.Worlds.{join-world}
use Rattle.step_core.proofs.world.World.meet.Goals as goal

pub invariant_of-self : goal.invariant_of-self
invariant_of-self c =
    join-world _ c.args.self.now c.args.view c.args.other c.replace-taken.new.dest c.replace-taken.result
    c.index_mut-2.result.now c.take_in.new.self c.self.view_is c.self.invariant
    c.requires.live c.requires.other c.requires.apart
    (subst (λ (x : Option (List ℕ)). x ≡ get_or c.self.inside.views.items c.args.other x)
    (sym c.replace-taken.ensures.value) c.index_mut.ensures.value)
    (c.replace-taken.ensures.after ∙ c.spent.ensures)
    c.index_mut-2.ensures.value
    c.take_in.ensures
