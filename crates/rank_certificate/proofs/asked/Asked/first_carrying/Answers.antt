use Rattle.rank_certificate.specs.inside.OfAsked.{value_in}
use Rattle.rank_certificate.proofs.asked.Asked.first_carrying.Goals as goal

pub loop-choice-init : goal.loop-choice-init
loop-choice-init c = λ d less carried.
    let may = carried.may in
    c.first_taken-choice.ensures (value_in c.args.self.now) d less may
