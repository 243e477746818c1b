use Rattle.std.proofs.Common.{◌≡◌, ◌≤◌, drop}
use Rattle.fractions.specs.Limits.{finest}
use Rattle.distributions.specs.Parts.{denominator_said}
use Rattle.distributions.proofs.choice.common_denominator.Given as goal

abbrev pub invariant-loop-part : goal.invariant-loop-part
invariant-loop-part l = record {
  value : denominator_said l.common (drop l.part-index l.parts) ≡ denominator_said 1 l.parts;
  positive : 1 ≤ l.common;
  fine : l.common ≤ finest;
}
