-- Bounds that do not settle a threshold leave it open: one of them meets it, and the other one does not.
use Rattle.std.proofs.Common.{◌≡◌, ℕ, ◌*◌, ◌^◌, ◌≤◌, Bool, true, false, not, refl, arith, inl, inr, Option, Some, None}
use Rattle.std.proofs.Math.Nat.{one-le-pow, mul-le-mul_right}
use Rattle.std.proofs.lemmas.Bool.{cases_lt, leb-true, leb-false, ltb-true, ltb-false}
use Rattle.fractions.specs.Fraction.{Fraction}
use Rattle.reward_formula.specs.declared.formula.RewardBound.{RewardBound}
use Rattle.reward_formula.specs.declared.formula.RewardBound.TheVariants.{AtLeast, Above, AtMost, Below, AskMax, AskMin}
use Rattle.verdicts.specs.Verdict.{verdict_by}
use Rattle.verdicts.specs.declared.verdict.Verdict.TheVariants.{Undecided}
use Rattle.reward_verdicts.specs.Truth.{IsBetween, IsMetBy}
use Rattle.reward_verdicts.specs.Verdict.{reaches, exceeds, reward_verdict_of}
use Rattle.reward_reports.specs.Reports.{IsLeftOpen}

-- 1. If neither test holds, the verdict is Undecided, and only then.

neither : (holds fails : Bool) → verdict_by holds fails ≡ Undecided → (holds ≡ false) × (fails ≡ false)
neither true fails is = absurd (cc)
neither false true is = absurd (cc)
neither false false is = (refl, refl)

unnegated : (test : Bool) → not test ≡ false → test ≡ true
unnegated true is = refl
unnegated false is = absurd (cc)

-- 2. A bound is itself a value, which meets a threshold or not by the tests.

value_of : ℕ → Option ℕ → Option Fraction
value_of places (Some units) = Some (record { num = units; den = 10 ^ places })
value_of places None = None

reached : (p : Fraction) (places : ℕ) (v : Option ℕ) → reaches p places v ≡ true
    → IsMetBy (AtLeast p) (value_of places v)
unfolding value_of
reached p places (Some units) is = leb-true (p.num * 10 ^ places) (units * p.den) is
reached p places None is = tt

not-reached : (p : Fraction) (places : ℕ) (v : Option ℕ) → reaches p places v ≡ false
    → IsMetBy (Below p) (value_of places v)
unfolding value_of
not-reached p places (Some units) is = leb-false (p.num * 10 ^ places) (units * p.den) is
not-reached p places None is = absurd (cc)

exceeded : (p : Fraction) (places : ℕ) (v : Option ℕ) → exceeds p places v ≡ true
    → IsMetBy (Above p) (value_of places v)
unfolding value_of
exceeded p places (Some units) is = ltb-true (p.num * 10 ^ places) (units * p.den) is
exceeded p places None is = tt

not-exceeded : (p : Fraction) (places : ℕ) (v : Option ℕ) → exceeds p places v ≡ false
    → IsMetBy (AtMost p) (value_of places v)
unfolding value_of
not-exceeded p places (Some units) is = ltb-false (p.num * 10 ^ places) (units * p.den) is
not-exceeded p places None is = absurd (cc)

-- no value is both at most a threshold and above it
most-above : (p : Fraction) (value : Option Fraction) → IsMetBy (AtMost p) value → IsMetBy (Above p) value → ⊥
most-above p (Some v) most above = omega (arith, most, above)
most-above p None most above = most

below-least : (p : Fraction) (value : Option Fraction) → IsMetBy (Below p) value → IsMetBy (AtLeast p) value → ⊥
below-least p (Some v) below least = omega (arith, below, least)
below-least p None below least = below

-- 3. If a test tells them apart, the lower bound is at most the upper one, so both lie between them.

AreBetween : ℕ → Option ℕ → Option ℕ → Type 0
AreBetween places lower upper =
    IsBetween places lower upper (value_of places lower) × IsBetween places lower upper (value_of places upper)

both-between : (places l u : ℕ) → l ≤ u → AreBetween places (Some l) (Some u)
unfolding AreBetween value_of
both-between places l u up =
    let some = one-le-pow places 10 (omega arith) in
    let times : l * 10 ^ places ≤ u * 10 ^ places = mul-le-mul_right (10 ^ places) up in (
      record { divided = some; low = omega arith; high = times },
      record { divided = some; low = times; high = omega arith },
    )

below-missing : (places l : ℕ) → AreBetween places (Some l) None
unfolding AreBetween value_of
below-missing places l = (
  record { divided = one-le-pow places 10 (omega arith); low = omega arith; high = tt },
  record { divided = tt; low = tt; high = tt },
)

in-order : (n d l u : ℕ) → l * d ≤ n → n ≤ u * d → (u * d ≤ l * d → ⊥) → l ≤ u
in-order n d l u low high apart = elim (cases_lt u l) [
  | inl less ↦ absurd (apart (mul-le-mul_right d (omega (arith, less))))
  | inr more ↦ more
]

between-reached : (p : Fraction) (places : ℕ) (lower upper : Option ℕ) → reaches p places lower ≡ false
    → reaches p places upper ≡ true → AreBetween places lower upper
between-reached p places None upper low high = absurd (cc)
between-reached p places (Some l) None low high = below-missing places l
between-reached p places (Some l) (Some u) low high =
    let under = leb-false (p.num * 10 ^ places) (l * p.den) low in
    let over = leb-true (p.num * 10 ^ places) (u * p.den) high in
    both-between places l u (in-order (p.num * 10 ^ places) p.den l u (omega (arith, under)) over
    (λ turned. omega (arith, under, over, turned)))

between-exceeded : (p : Fraction) (places : ℕ) (lower upper : Option ℕ) → exceeds p places lower ≡ false
    → exceeds p places upper ≡ true → AreBetween places lower upper
between-exceeded p places None upper low high = absurd (cc)
between-exceeded p places (Some l) None low high = below-missing places l
between-exceeded p places (Some l) (Some u) low high =
    let under = ltb-false (p.num * 10 ^ places) (l * p.den) low in
    let over = ltb-true (p.num * 10 ^ places) (u * p.den) high in
    both-between places l u (in-order (p.num * 10 ^ places) p.den l u under (omega (arith, over))
    (λ turned. omega (arith, under, over, turned)))

-- 4. So the threshold is left open.

upper-meets : (bound : RewardBound) (places : ℕ) (lower upper : Option ℕ) → AreBetween places lower upper
    → IsMetBy bound (value_of places upper) → ¬ IsMetBy bound (value_of places lower)
    → IsLeftOpen bound places lower upper
unfolding AreBetween
upper-meets bound places lower upper between meets misses = record {
  one = value_of places upper;
  one_between = between.1;
  met = meets;
  other = value_of places lower;
  other_between = between.0;
  missed = misses;
}

lower-meets : (bound : RewardBound) (places : ℕ) (lower upper : Option ℕ) → AreBetween places lower upper
    → IsMetBy bound (value_of places lower) → ¬ IsMetBy bound (value_of places upper)
    → IsLeftOpen bound places lower upper
unfolding AreBetween
lower-meets bound places lower upper between meets misses = record {
  one = value_of places lower;
  one_between = between.0;
  met = meets;
  other = value_of places upper;
  other_between = between.1;
  missed = misses;
}

pub left-open : (bound : RewardBound) (places : ℕ) (lower upper : Option ℕ)
    → reward_verdict_of bound places lower upper ≡ Undecided → IsLeftOpen bound places lower upper
left-open (AtLeast p) places lower upper is =
    let tests = neither (reaches p places lower) (not (reaches p places upper)) is in
    let high = unnegated (reaches p places upper) tests.1 in
    upper-meets (AtLeast p) places lower upper (between-reached p places lower upper tests.0 high)
    (reached p places upper high)
    (below-least p (value_of places lower) (not-reached p places lower tests.0))
left-open (Above p) places lower upper is =
    let tests = neither (exceeds p places lower) (not (exceeds p places upper)) is in
    let high = unnegated (exceeds p places upper) tests.1 in
    upper-meets (Above p) places lower upper (between-exceeded p places lower upper tests.0 high)
    (exceeded p places upper high)
    (most-above p (value_of places lower) (not-exceeded p places lower tests.0))
left-open (AtMost p) places lower upper is =
    let tests = neither (not (exceeds p places upper)) (exceeds p places lower) is in
    let high = unnegated (exceeds p places upper) tests.0 in
    lower-meets (AtMost p) places lower upper (between-exceeded p places lower upper tests.1 high)
    (not-exceeded p places lower tests.1)
    (λ most. most-above p (value_of places upper) most (exceeded p places upper high))
left-open (Below p) places lower upper is =
    let tests = neither (not (reaches p places upper)) (reaches p places lower) is in
    let high = unnegated (reaches p places upper) tests.0 in
    lower-meets (Below p) places lower upper (between-reached p places lower upper tests.1 high)
    (not-reached p places lower tests.1)
    (λ below. below-least p (value_of places upper) below (reached p places upper high))
left-open AskMax places lower upper is = absurd (cc)
left-open AskMin places lower upper is = absurd (cc)
