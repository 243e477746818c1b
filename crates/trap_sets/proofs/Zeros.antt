-- Entries that are zero, and others.
use Rattle.std.proofs.Common.{◌≡◌, ◌≢◌, ℕ, zero, suc, ◌<◌, List, [], ◌∷◌, length, replicate, arith, refl}
use Rattle.std.specs.Prelude.{slice_index}

pub zero-at : (n p : ℕ) → slice_index (replicate n 0) p ≡ 0
zero-at zero p = refl
zero-at (suc n) zero = refl
zero-at (suc n) (suc p) = zero-at n p

-- a state within the list has a nonzero entry
pub within : (marks : List ℕ) (s : ℕ) → slice_index marks s ≢ 0 → s < length marks
within [] s some = absurd (some refl)
within (m ∷ marks) zero some = omega arith
within (m ∷ marks) (suc s) some = omega (arith, within marks s some)
