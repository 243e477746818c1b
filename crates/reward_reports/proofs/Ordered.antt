-- The printed bounds are in order if the values are.
use Rattle.std.proofs.Common.{◌≡◌, ℕ, ◌≤◌, Bool, true, false, refl, arith, Some, None}
use Rattle.std.specs.Prelude.{◌/◌, ◌^◌, ◌*◌, if◌then◌else◌}
use Rattle.std.specs.Int.{div_ceil}
use Rattle.fractions.specs.Fraction.{Fraction}
use Rattle.reward_check.specs.Certificates.{Certificate}
use Rattle.reward_units.specs.Exact.{ExactRewards, uncapped}
use Rattle.reward_units.specs.Units.{all_below, all_above}
use Rattle.reward_verdicts.specs.Truth.{IsUpTo}

div-le-div_ceil : (a d : ℕ) → a / d ≤ div_ceil a d
div-le-div_ceil a d = omega arith

below-above : (f : Fraction) (places : ℕ) → all_below f places ≤ all_above f places
below-above f places = div-le-div_ceil (f.num * 10 ^ places) f.den

-- rewards that are rounded down are at most those that are rounded up, for any state and choice
pub low-high : (c : Certificate) (exact : ExactRewards) (places t k : ℕ)
    → (uncapped c exact places).low t k ≤ (uncapped c exact places).high t k
low-high c exact places t k = omega (
  arith,
  below-above (exact.of_state t) places,
  below-above (exact.of_choice t k) places,
)

pub up-to : (finite bounded : Bool) (lower upper : ℕ) → (bounded ≡ true → finite ≡ true)
    → (bounded ≡ true → lower ≤ upper)
    → IsUpTo (if finite then Some lower else None) (if bounded then Some upper else None)
up-to true true lower upper is order = order refl
up-to true false lower upper is order = tt
up-to false true lower upper is order = let no : false ≡ true = is refl in absurd (cc)
up-to false false lower upper is order = tt
