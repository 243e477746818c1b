use Rattle.std.proofs.Common.{ap, sym, ◌∙◌}
use Rattle.trap_sets.specs.inside.Roots.{roots_below}
use Rattle.trap_sets.proofs.Roots.{none-below}
use Rattle.trap_sets.proofs.numbers.number_of.Goals as goal

pub returns-then-own-eq0 : goal.returns-then-own-eq0
returns-then-own-eq0 c =
    sym (ap (roots_below c.args.part.now) c.if-own-eq0.true ∙ none-below c.args.part.now)
