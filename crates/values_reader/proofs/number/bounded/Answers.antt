-- A number above 0 that is not above 1 is from 0 to 1.
use Rattle.std.proofs.lemmas.Float.{T_from_true, T_from_false, le_of_lt, le_of_not-lt, le_right}
use Rattle.std.specs.Float.{◌≤ᶠ◌, float_one, float_zero}
use Rattle.values_reader.proofs.number.bounded.Goals as goal

pub returns-then-value-2 : goal.returns-then-value-2
unfolding lib.Ieee.of_bits lib.Ieee.is_nan
returns-then-value-2 c =
    let low : float_zero ≤ᶠ c.args.value = le_of_lt float_zero c.args.value (T_from_true _ c.if-value-2.true) in
    let number = le_right float_zero c.args.value low in
    (low, le_of_not-lt float_one c.args.value tt number (T_from_false _ c.if-value.false))
