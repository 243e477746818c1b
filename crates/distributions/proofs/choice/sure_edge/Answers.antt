use Rattle.std.proofs.Common.{◌≡◌, ◌∙◌, ap, refl, arith}
use Rattle.distributions.specs.Parts.{choice_said}
use Rattle.distributions.proofs.Chosen.{only, sure_said}
use Rattle.distributions.proofs.choice.sure_edge.Goals as goal

pub returns-clause-said : goal.returns-clause-said
returns-clause-said c =
    let part = c.part-item.result in
    let num : part.share.num ≡ 1 = omega (arith, c.num.ensures.value, c.if-num-ne1.false) in
    let den : part.share.den ≡ 1 = omega (arith, c.den.ensures.value, c.if-den-ne1.false) in
    ap choice_said (only c.args.parts.now part c.in-len1.len_at_least c.in-len1.len_below c.part-item.is)
    ∙ sure_said part (record { to = part.to; weight = 1 }) num den refl refl
