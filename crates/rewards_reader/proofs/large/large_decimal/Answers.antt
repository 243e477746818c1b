use Rattle.std.proofs.Common.{◌∙◌, length, sym, ap, arith}
use Rattle.numerals.specs.Spelling.{Decimal}
use Rattle.fractions.specs.Number.{fraction_said}
use Rattle.numerals.proofs.Spelled.{digits_room, digits_room_behind}
use Rattle.rewards_reader.specs.Amounts.{amount_of}
use Rattle.numerals.specs.Written.{exponent_in}
use Rattle.rewards_reader.proofs.Amounts.{large-spelled, short-decimal, short-amount, decimal-below, decimal-above}
use Rattle.rewards_reader.proofs.large.large_decimal.Goals as goal

pub digits_onto-requires-clause-small : goal.digits_onto-requires-clause-small
digits_onto-requires-clause-small c =
    let power = exponent_in c.args.power in
    let large = large-spelled (Decimal c.args.front.now c.args.back.now power) c.requires.large in
    let short = short-decimal c.args.front.now c.args.back.now power large.0 in
    digits_room (length c.args.front.now) (omega (arith, short.few))

pub digits_onto-digits-requires-clause-small : goal.digits_onto-digits-requires-clause-small
digits_onto-digits-requires-clause-small c =
    let power = exponent_in c.args.power in
    let large = large-spelled (Decimal c.args.front.now c.args.back.now power) c.requires.large in
    let short = short-decimal c.args.front.now c.args.back.now power large.0 in
    digits_room_behind c.digits_onto.result (length c.args.front.now) (length c.args.back.now)
    c.digits_onto.ensures.small short.few

pub large_over_tens-requires-clause-small : goal.large_over_tens-requires-clause-small
large_over_tens-requires-clause-small c =
    let power = exponent_in c.args.power in
    let large = large-spelled (Decimal c.args.front.now c.args.back.now power) c.requires.large in
    let short = short-decimal c.args.front.now c.args.back.now power large.0 in
    let room = digits_room_behind c.digits_onto.result (length c.args.front.now) (length c.args.back.now)
    c.digits_onto.ensures.small short.few in
    omega (arith, room, c.digits_onto-digits.ensures.small)

pub large_over_tens-requires-clause-large : goal.large_over_tens-requires-clause-large
large_over_tens-requires-clause-large c =
    let power = exponent_in c.args.power in
    let large = large-spelled (Decimal c.args.front.now c.args.back.now power) c.requires.large in
    let value = decimal-below c.args.front.now c.args.back.now power c.digits_onto.result c.digits_onto-digits.result
    c.digits_onto-size.result c.if-power.true c.digits_onto.ensures.value c.digits_onto-digits.ensures.value
    c.digits_onto-size.ensures.value in
    ap (λ f. fraction_said f) (sym value) ∙ large.1

pub large_over_tens-requires-else-power-clause-small : goal.large_over_tens-requires-else-power-clause-small
large_over_tens-requires-else-power-clause-small c =
    let power = exponent_in c.args.power in
    let large = large-spelled (Decimal c.args.front.now c.args.back.now power) c.requires.large in
    let short = short-decimal c.args.front.now c.args.back.now power large.0 in
    let room = digits_room_behind c.digits_onto.result (length c.args.front.now) (length c.args.back.now)
    c.digits_onto.ensures.small short.few in
    omega (arith, room, c.digits_onto-digits.ensures.small)

pub large_over_tens-requires-else-power-clause-large : goal.large_over_tens-requires-else-power-clause-large
large_over_tens-requires-else-power-clause-large c =
    let power = exponent_in c.args.power in
    let large = large-spelled (Decimal c.args.front.now c.args.back.now power) c.requires.large in
    let value = decimal-above c.args.front.now c.args.back.now power c.digits_onto.result c.digits_onto-digits.result
    c.digits_onto-size.result c.if-power.false c.digits_onto.ensures.value c.digits_onto-digits.ensures.value
    c.digits_onto-size.ensures.value in
    ap (λ f. fraction_said f) (sym value) ∙ large.1

pub returns-then-power : goal.returns-then-power
returns-then-power c =
    let power = exponent_in c.args.power in
    let large = large-spelled (Decimal c.args.front.now c.args.back.now power) c.requires.large in
    let value = decimal-below c.args.front.now c.args.back.now power c.digits_onto.result c.digits_onto-digits.result
    c.digits_onto-size.result c.if-power.true c.digits_onto.ensures.value c.digits_onto-digits.ensures.value
    c.digits_onto-size.ensures.value in
    c.large_over_tens.ensures ∙ ap (λ f. amount_of f) (sym value)
    ∙ sym (short-amount (Decimal c.args.front.now c.args.back.now power) large.0)

pub returns-else-power : goal.returns-else-power
returns-else-power c =
    let power = exponent_in c.args.power in
    let large = large-spelled (Decimal c.args.front.now c.args.back.now power) c.requires.large in
    let value = decimal-above c.args.front.now c.args.back.now power c.digits_onto.result c.digits_onto-digits.result
    c.digits_onto-size.result c.if-power.false c.digits_onto.ensures.value c.digits_onto-digits.ensures.value
    c.digits_onto-size.ensures.value in
    c.large_over_tens-else-power.ensures ∙ ap (λ f. amount_of f) (sym value)
    ∙ sym (short-amount (Decimal c.args.front.now c.args.back.now power) large.0)
