-- This module defines greatest common divisors and least common multiples of numbers of any size.
use Rattle.std.specs.Prelude.{ℕ, zero, suc, ◌*◌, ◌/◌, ◌%◌}

-- This is Euclid's algorithm, in at most `steps` steps.
unfoldable pub gcd_within : ℕ → ℕ → ℕ → ℕ
gcd_within zero a b = a
gcd_within (suc steps) a zero = a
gcd_within (suc steps) a (suc b) = gcd_within steps (suc b) (a % suc b)

-- This is the greatest common divisor. The second number falls with each step, so it bounds the number of steps.
unfoldable pub gcd : ℕ → ℕ → ℕ
gcd a b = gcd_within b a b

-- This is the least common multiple.
unfoldable pub lcm : ℕ → ℕ → ℕ
lcm a b = a / gcd a b * b
