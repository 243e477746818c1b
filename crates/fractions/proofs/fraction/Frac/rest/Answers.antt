use Rattle.std.proofs.Common.{◌≡◌, ◌≤◌, ◌-◌, ℕ, subst, arith}
use Prim.Native.Nat.{◌∣◌}
use Rattle.std.specs.Int.{IsGcd}
use Rattle.std.proofs.Math.Nat.{one-dvd, dvd-sub}
use Rattle.fractions.proofs.fraction.Frac.rest.Goals as goal

-- what divides the denominator and the rest divides the numerator
coprime-rest : (num den : ℕ) → num ≤ den → IsGcd num den 1 → IsGcd (den - num) den 1
coprime-rest num den small is = (
  one-dvd (den - num),
  one-dvd den,
  λ d p q.
      let P : ℕ → Type 0 = λ n. d ∣ n in
      let back : den - (den - num) ≡ num = omega arith in
      is.2 d (subst P back (dvd-sub d q p)) q,
)

pub of-requires-clause-lowest : goal.of-requires-clause-lowest
of-requires-clause-lowest c = coprime-rest _ _ (small_inside c.requires) c.self.invariant.lowest
  where
    small_inside : c.args.self.now.num ≤ c.args.self.now.den → c.self.inside.num ≤ c.self.inside.den
    small_inside h = rw (← c.self.view_is) at h
