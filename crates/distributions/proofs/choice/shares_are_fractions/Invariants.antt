use Rattle.std.specs.List.{AllWithin}
use Rattle.fractions.specs.Fraction.{IsFraction}
use Rattle.distributions.proofs.choice.shares_are_fractions.Given as goal

abbrev pub invariant-loop-part : goal.invariant-loop-part
invariant-loop-part l = AllWithin (λ part. IsFraction part.share) l.parts 0 l.part-index
