-- A verdict over bounds of a value is right for the value.
use Rattle.std.proofs.Common.{◌≡◌, ℕ, ◌*◌, ◌^◌, Bool, true, false, not, refl, arith, Option, Some, None}
use Rattle.std.proofs.Math.Nat.{one-le-pow}
use Rattle.std.proofs.lemmas.Bool.{leb-true, leb-false, ltb-true, ltb-false, not-true}
use Rattle.fractions.specs.Fraction.{Fraction}
use Rattle.reward_formula.specs.declared.formula.RewardBound.{RewardBound}
use Rattle.reward_formula.specs.declared.formula.RewardBound.TheVariants.{AtLeast, Above, AtMost, Below, AskMax, AskMin}
use Rattle.verdicts.specs.Verdict.{verdict_by}
use Rattle.verdicts.proofs.Fractions.{reached, exceeded, not_exceeded, not_reached}
use Rattle.reward_verdicts.specs.Truth.{IsBetween, IsMetBy, IsRight}
use Rattle.reward_verdicts.specs.Verdict.{reaches, exceeds, reward_verdict_of}

-- what two tests say of a value is right if each of them is
right_by : (bound : RewardBound) (value : Option Fraction) (holds fails : Bool) → (holds ≡ true → IsMetBy bound value)
    → (fails ≡ true → ¬ IsMetBy bound value) → IsRight bound value (verdict_by holds fails)
right_by bound value true fails if_holds if_fails = if_holds refl
right_by bound value false true if_holds if_fails = if_fails refl
right_by bound value false false if_holds if_fails = tt

-- a threshold that the lower bound reaches is at most the value, and one that it exceeds is below it
low-reached : (places : ℕ) (p : Fraction) (lower upper : Option ℕ) (value : Option Fraction)
    → IsBetween places lower upper value → reaches p places lower ≡ true → IsMetBy (AtLeast p) value
low-reached places p lower upper None between is = tt
low-reached places p None upper (Some v) between is = absurd (between.low)
low-reached places p (Some l) upper (Some v) between is =
    reached (10 ^ places) p.num p.den l v.num v.den (one-le-pow places 10 (omega arith)) (omega (arith, between.low))
    (leb-true (p.num * 10 ^ places) (l * p.den) is)

low-exceeded : (places : ℕ) (p : Fraction) (lower upper : Option ℕ) (value : Option Fraction)
    → IsBetween places lower upper value → exceeds p places lower ≡ true → IsMetBy (Above p) value
low-exceeded places p lower upper None between is = tt
low-exceeded places p None upper (Some v) between is = absurd (between.low)
low-exceeded places p (Some l) upper (Some v) between is =
    exceeded (10 ^ places) p.num p.den l v.num v.den between.divided (omega (arith, between.low))
    (ltb-true (p.num * 10 ^ places) (l * p.den) is)

-- one that the upper bound does not exceed is at least the value, and one that it does not reach is above it
high-not_exceeded : (places : ℕ) (p : Fraction) (lower upper : Option ℕ) (value : Option Fraction)
    → IsBetween places lower upper value → exceeds p places upper ≡ false → IsMetBy (AtMost p) value
high-not_exceeded places p lower None value between is = absurd (cc)
high-not_exceeded places p lower (Some u) None between is = absurd (between.high)
high-not_exceeded places p lower (Some u) (Some v) between is =
    not_exceeded (10 ^ places) p.num p.den u v.num v.den (one-le-pow places 10 (omega arith))
    (omega (arith, between.high)) (ltb-false (p.num * 10 ^ places) (u * p.den) is)

high-not_reached : (places : ℕ) (p : Fraction) (lower upper : Option ℕ) (value : Option Fraction)
    → IsBetween places lower upper value → reaches p places upper ≡ false → IsMetBy (Below p) value
high-not_reached places p lower None value between is = absurd (cc)
high-not_reached places p lower (Some u) None between is = absurd (between.high)
high-not_reached places p lower (Some u) (Some v) between is =
    not_reached (10 ^ places) p.num p.den u v.num v.den between.divided (omega (arith, between.high))
    (leb-false (p.num * 10 ^ places) (u * p.den) is)

-- no value is both at most a threshold and above it
apart : (p : Fraction) (value : Option Fraction) → IsMetBy (AtMost p) value → IsMetBy (Above p) value → ⊥
apart p (Some v) most above = omega (arith, most, above)
apart p None most above = most

apart-below : (p : Fraction) (value : Option Fraction) → IsMetBy (Below p) value → IsMetBy (AtLeast p) value → ⊥
apart-below p (Some v) below least = omega (arith, below, least)
apart-below p None below least = below

pub right : (bound : RewardBound) (places : ℕ) (lower upper : Option ℕ) (value : Option Fraction)
    → IsBetween places lower upper value → IsRight bound value (reward_verdict_of bound places lower upper)
right (AtLeast p) places lower upper value between =
    right_by (AtLeast p) value (reaches p places lower) (not (reaches p places upper))
    (low-reached places p lower upper value between)
    (λ is. apart-below p value (high-not_reached places p lower upper value between (not-true _ is)))
right (Above p) places lower upper value between =
    right_by (Above p) value (exceeds p places lower) (not (exceeds p places upper))
    (low-exceeded places p lower upper value between)
    (λ is. apart p value (high-not_exceeded places p lower upper value between (not-true _ is)))
right (AtMost p) places lower upper value between =
    right_by (AtMost p) value (not (exceeds p places upper)) (exceeds p places lower)
    (λ is. high-not_exceeded places p lower upper value between (not-true _ is))
    (λ is most. apart p value most (low-exceeded places p lower upper value between is))
right (Below p) places lower upper value between =
    right_by (Below p) value (not (reaches p places upper)) (reaches p places lower)
    (λ is. high-not_reached places p lower upper value between (not-true _ is))
    (λ is below. apart-below p value below (low-reached places p lower upper value between is))
right AskMax places lower upper value between = tt
right AskMin places lower upper value between = tt
