use Rattle.std.proofs.Common.{◌∙◌, Ok, ap, sym}
use Rattle.rewards_reader.proofs.Amounts.{number-amount, number-fault}
use Rattle.rewards_reader.proofs.number.read_amount.Goals as goal

pub returns-in-Ok : goal.returns-in-Ok
returns-in-Ok c =
    ap (λ f. Ok f) c.of_number.ensures
    ∙ sym (number-amount c.args.text.now c.in-Ok.number (sym c.read_number.ensures ∙ c.in-Ok.is))

pub returns-in_default : goal.returns-in_default
returns-in_default c =
    sym (number-fault c.args.text.now c.in-Err.fault c.in_default.not-TooLarge
    (sym c.read_number.ensures ∙ c.in-Err.is))
