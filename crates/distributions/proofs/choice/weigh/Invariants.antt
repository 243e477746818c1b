use Rattle.std.proofs.Common.{◌≡◌, ◌≤◌, ◌*◌, take}
use Rattle.std.specs.Prelude.{All}
use Rattle.fractions.specs.Limits.{finest, most_value}
use Rattle.distributions.specs.Parts.{weighted}
use Rattle.distributions.proofs.choice.weigh.Given as goal

abbrev pub invariant-loop-part : goal.invariant-loop-part
invariant-loop-part l = record {
  value : l.edges.items ≡ weighted l.common (take l.part-index l.parts);
  small : All (λ e. e.weight ≤ most_value * finest) l.edges.items;
}
