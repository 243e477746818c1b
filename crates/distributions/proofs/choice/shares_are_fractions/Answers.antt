use Rattle.std.proofs.lemmas.List.Elements.{AllWithin-more, at_read}
use Rattle.fractions.specs.Fraction.{IsFraction}
use Rattle.distributions.specs.declared.choice.Part.{Part}
use Rattle.distributions.proofs.choice.shares_are_fractions.Goals as goal

pub loop-part-preserved : goal.loop-part-preserved
loop-part-preserved c =
    let P : Part → Type 0 = λ part. IsFraction part.share in
    AllWithin-more P _ 0 _ c.loop-part.invariant
    (at_read _ P _ _ c.loop-part-test.true c.part-item.is c.invariant.ensures)
