use Rattle.std.proofs.Common.{◌*◌, ◌^◌, ◌≤◌, arith, ap, ◌∙◌}
use Rattle.std.proofs.Math.Nat.{one-le-pow}
use Rattle.reward_units.proofs.Places.{power-most, whole-most, part-most, units-fit, parts-whole}
use Rattle.reward_units.proofs.division.divide.Goals as goal

pub overflow_mul-whole : goal.overflow_mul-whole
overflow_mul-whole c =
    let few : c.pow-power.result ≤ 10 ^ 15 =
    omega (arith, c.pow-power.ensures, power-most c.args.places c.requires.places) in
    omega (arith, whole-most c.args.num c.args.den c.pow-power.result c.requires.small few)

pub overflow_mul-part : goal.overflow_mul-part
overflow_mul-part c =
    let few : c.pow-power.result ≤ 10 ^ 15 =
    omega (arith, c.pow-power.ensures, power-most c.args.places c.requires.places) in
    omega (arith, part-most c.args.num c.args.den c.pow-power.result (omega arith) c.requires.fine few)

pub overflow_add-result : goal.overflow_add-result
overflow_add-result c =
    let few : c.pow-power.result ≤ 10 ^ 15 =
    omega (arith, c.pow-power.ensures, power-most c.args.places c.requires.places) in
    let some : 1 ≤ c.pow-power.result =
    omega (arith, c.pow-power.ensures, one-le-pow c.args.places 10 (omega arith)) in
    omega (arith, units-fit c.args.num c.args.den c.pow-power.result c.requires.small some, few)

pub returns-clause-whole : goal.returns-clause-whole
returns-clause-whole c =
    parts-whole c.args.num c.args.den c.pow-power.result ∙ ap (λ n. c.args.num * n) c.pow-power.ensures

pub returns-clause-fits : goal.returns-clause-fits
returns-clause-fits c =
    let some : 1 ≤ c.pow-power.result =
    omega (arith, c.pow-power.ensures, one-le-pow c.args.places 10 (omega arith)) in
    omega (arith, units-fit c.args.num c.args.den c.pow-power.result c.requires.small some, c.pow-power.ensures)
