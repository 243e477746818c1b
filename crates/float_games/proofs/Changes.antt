-- Values that one sweep has written, and the greatest change so far.
use Rattle.std.proofs.Common.{◌≢◌, ℕ, ◌+◌, ◌<◌, List, length, set, get_or, arith}
use Rattle.std.proofs.Common.{below_more, get_or-set_other, get_or-set_same}
use Rattle.std.proofs.lemmas.Float.{le_of_lt, le_trans}
use Rattle.std.specs.Float.{Float, ◌<ᶠ◌, ◌≤ᶠ◌, float_zero}
use Rattle.float_games.specs.Units.{IsInUnits}

-- one more value in range
pub in_units_more :
    (xs : List Float) (n : ℕ) (v : Float)
    → ((k : ℕ) → k < n → IsInUnits (get_or xs k float_zero))
    → n < length xs
    → IsInUnits v
    → (k : ℕ)
    → k < n + 1
    → IsInUnits (get_or (set xs n v) k float_zero)
in_units_more xs n v before inside now =
    let P : ℕ → Type 0 = λ k. IsInUnits (get_or (set xs n v) k float_zero) in
    below_more P n (λ k h. let ne : k ≢ n = omega arith in rw get_or-set_other (before k h)) (rw get_or-set_same now)

-- what is above a number from 0 on is one
pub above_zero : (a b : Float) → float_zero ≤ᶠ a → a <ᶠ b → float_zero ≤ᶠ b
above_zero a b low above = le_trans float_zero a b low (le_of_lt a b above)
