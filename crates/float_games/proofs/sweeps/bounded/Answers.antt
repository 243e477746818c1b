-- What is above the unit is not at most the unit; a number above 0 that is not above the unit is in range.
use Rattle.std.proofs.lemmas.Float.{T_from_true, T_from_false, le_of_lt, le_of_not-lt, le_right}
use Rattle.std.proofs.lemmas.Float.{lt_irrefl, lt_of_lt_of_le}
use Rattle.std.specs.Float.{◌≤ᶠ◌, float_zero}
use Rattle.float_games.specs.declared.TheConstants.{UNIT}
use Rattle.float_games.proofs.sweeps.bounded.Goals as goal

pub returns-then-value-clause-same : goal.returns-then-value-clause-same
returns-then-value-clause-same c =
    λ above within. absurd
    (lt_irrefl UNIT (lt_of_lt_of_le UNIT c.args.value UNIT (T_from_true _ c.if-value.true) within))

pub returns-then-value-2-clause-units : goal.returns-then-value-2-clause-units
unfolding lib.Ieee.of_bits lib.Ieee.is_nan
returns-then-value-2-clause-units c =
    let low : float_zero ≤ᶠ c.args.value = le_of_lt float_zero c.args.value (T_from_true _ c.if-value-2.true) in
    let number = le_right float_zero c.args.value low in
    (low, le_of_not-lt UNIT c.args.value tt number (T_from_false _ c.if-value.false))
