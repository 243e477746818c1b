-- A value is written as one digit, a point, and as many digits as the unit has zeros.
use Rattle.std.specs.Prelude.{ℕ, zero, suc, ◌+◌, ◌/◌, ◌%◌, List, [], ◌∷◌, ◌++◌}
use Rattle.game_model.specs.Limits.{unit}

-- The text has the last k decimal digits of a number, with leading zeros.
unfoldable pub last_digits : ℕ → ℕ → List ℕ
last_digits zero n = []
last_digits (suc k) n = last_digits k (n / 10) ++ (48 + n % 10) ∷ []

-- The unit is ten to this power.
abbrev pub unit_digits : ℕ
unit_digits = 15

-- The text is a value of this many units, in decimal.
abbrev pub fixed : ℕ → List ℕ
fixed units = (48 + units / unit) ∷ 46 ∷ last_digits unit_digits (units % unit)
