-- Values of states are numbers from 0 to 1.
use Rattle.std.specs.Prelude.{List, EachIndex, slice_index_or}
use Rattle.std.specs.Float.{Float, ◌≤ᶠ◌, float_zero, float_one}

-- The number is from 0 to 1.
abbrev pub IsProbability : Float → Type 0
IsProbability x = (float_zero ≤ᶠ x) × (x ≤ᶠ float_one)

-- Each entry is a number from 0 to 1.
abbrev pub AreProbabilities : List Float → Type 0
AreProbabilities xs = EachIndex xs (λ k. IsProbability (slice_index_or xs k float_zero))
