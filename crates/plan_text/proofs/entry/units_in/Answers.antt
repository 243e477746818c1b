use Rattle.std.proofs.Common.{◌≡◌, ◌∙◌, ◌*◌, ap, arith, rules}
use Rattle.plan_text.specs.Versions.{units_of_last_digit}
use Rattle.plan_text.proofs.Values.{number_of-decimals, units_of-read}
use Rattle.plan_text.proofs.entry.units_in.Goals as goal

pub overflow_mul-decimals : goal.overflow_mul-decimals
overflow_mul-decimals c =
    let n = c.in_ok-decimals.field-0 in
    let spelled =
    number_of-decimals c.args.version _ n (c.if-digits-decimals.false ∙ c.decimals.ensures) c.in_ok-decimals.ensures in
    let product : n * c.units_of_last_digit.result ≡ n * units_of_last_digit c.args.version =
    ap (λ r. n * r) c.units_of_last_digit.ensures in
    omega (arith, spelled.0, product)

pub overflow_add-result : goal.overflow_add-result
overflow_add-result c =
    let n = c.in_ok-decimals.field-0 in
    let spelled =
    number_of-decimals c.args.version _ n (c.if-digits-decimals.false ∙ c.decimals.ensures) c.in_ok-decimals.ensures in
    let product : n * c.units_of_last_digit.result ≡ n * units_of_last_digit c.args.version =
    ap (λ r. n * r) c.units_of_last_digit.ensures in
    omega (arith, spelled.0, product, c.from.ensures, c.type_inv.field 0)

pub returns : goal.returns
returns c =
    let read = units_of-read c.args.version c.args.field.now c.in_ok-decimals.field-0 c.in-46.len_at_least
    (search rules) (search rules) (c.if-digits-decimals.false ∙ c.decimals.ensures) c.in_ok-decimals.ensures in
    cc
