use Rattle.std.proofs.Common.{◌≡◌, ◌∙◌, ◌≤◌, ◌+◌, ◌-◌, ◌*◌, ◌^◌, ℕ, true, get_or, drop, length, ap, subst, sym, refl}
use Rattle.std.proofs.Common.{rules, arith}
use Prim.Native.Nat.{◌∣◌}
use Rattle.text_lines.specs.Text.{is_digit, value_onto}
use Rattle.fractions.proofs.Factors.{pow_divides}
use Rattle.numerals.proofs.Spelled.{digit-most, digit_step, digits_behind}
use Rattle.fractions.proofs.Powers.{places_room, next_power, power_fits}
use Rattle.fractions.proofs.short.over_places.Goals as goal

pub loop-b-init : goal.loop-b-init
loop-b-init c =
    let is : is_digit c.args.front ≡ true = search rules in
    record {
      num = ap (λ n. value_onto n c.args.back.now) c.from-num.ensures;
      den = refl;
      digits = refl;
      small =
          let P : ℕ → Type 0 = λ n. (n + 1) * 10 ^ (length c.args.back.now - 0) ≤ 10 ^ 19 in
          subst P (sym c.from-num.ensures)
          (places_room (c.args.front - 48) (length c.args.back.now - 0) (digit-most c.args.front is) (omega arith));
    }

pub overflow_mul-num : goal.overflow_mul-num
overflow_mul-num c =
    let is : is_digit (get_or c.args.back.now c.loop-b.b-index 0) ≡ true = search rules in
    let step =
    digit_step c.args.back.now c.loop-b.b-index c.loop-b.num (10 ^ 19) c.loop-b-test.true is c.loop-b.invariant.small in
    omega (arith, step.room)

pub overflow_add-num : goal.overflow_add-num
overflow_add-num c =
    let is : is_digit (get_or c.args.back.now c.loop-b.b-index 0) ≡ true = search rules in
    let step =
    digit_step c.args.back.now c.loop-b.b-index c.loop-b.num (10 ^ 19) c.loop-b-test.true is c.loop-b.invariant.small in
    omega (arith, step.room, step.digit, c.from.ensures)

pub overflow_mul-den : goal.overflow_mul-den
overflow_mul-den c = omega (
  arith,
  power_fits c.loop-b.den c.loop-b.b-index
      (length c.args.back.now) c.loop-b.invariant.den c.loop-b-test.true (omega arith),
)

pub loop-b-preserved : goal.loop-b-preserved
loop-b-preserved c =
    let is : is_digit (get_or c.args.back.now c.loop-b.b-index 0) ≡ true = search rules in
    let step =
    digit_step c.args.back.now c.loop-b.b-index c.loop-b.num (10 ^ 19) c.loop-b-test.true is c.loop-b.invariant.small in
    let P : ℕ → Type 0 =
    λ d. (10 * c.loop-b.num + d + 1) * 10 ^ (length c.args.back.now - (c.loop-b.b-index + 1)) ≤ 10 ^ 19 in
    record {
      num = ap (λ d. value_onto (10 * c.loop-b.num + d) (drop (c.loop-b.b-index + 1) c.args.back.now)) c.from.ensures
          ∙ step.value ∙ c.loop-b.invariant.num;
      den = next_power c.loop-b.den c.loop-b.b-index c.loop-b.invariant.den;
      digits = c.loop-b.invariant.digits ∙ digits_behind c.args.back.now c.loop-b.b-index c.loop-b-test.true is;
      small = subst P (sym c.from.ensures) step.small;
    }

pub new-requires : goal.new-requires
new-requires c =
    let P : ℕ → Type 0 = λ n. n ∣ 10 ^ 19 in
    subst P (sym c.loop-b.invariant.den) (pow_divides 10 c.loop-b.b-index 19 (omega arith))
