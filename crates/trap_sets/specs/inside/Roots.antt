-- This module defines the roots of parts, and the numbers of the parts.
use Rattle.std.specs.Prelude.{◌≡◌, ℕ, zero, suc, ◌+◌, ◌==◌, List, length, slice_index, if◌then◌else◌}
use Rattle.trap_sets.specs.inside.Each.{IsEach}

-- This many of the first states are roots.
unfoldable pub roots_below : List ℕ → ℕ → ℕ
roots_below part zero = 0
roots_below part (suc n) = roots_below part n + (if slice_index part n == n + 1 then 1 else 0)

-- This is the number of roots.
abbrev pub roots : List ℕ → ℕ
roots part = roots_below part (length part)

-- The number of a state's part is the number of roots up to its own, and 0 if the state has no part.
abbrev pub number : List ℕ → ℕ → ℕ
number part s = roots_below part (slice_index part s)

-- Each of the first states has the number of its part.
abbrev pub AreNumbers : List ℕ → List ℕ → ℕ → Type 0
AreNumbers part of n = IsEach (λ s own. own ≡ number part s) of n
