-- Tests of order, and the orders that they test.
use Rattle.std.proofs.Common.{◌≡◌, ◌≤◌, ℕ, false, arith, nat_lt}
use Rattle.std.proofs.lemmas.Bool.Decides.{nat_tests}

pub not_above : (a b : ℕ) → a ≤ b → nat_lt b a ≡ false
not_above a b h = grind (arith, nat_tests)

pub le_from : (a b : ℕ) → nat_lt b a ≡ false → a ≤ b
le_from a b e = grind (arith, nat_tests)
