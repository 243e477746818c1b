-- What bounds say of 1 less a value.
use Rattle.std.proofs.Common.{◌≡◌, ◌∙◌, ℕ, ◌+◌, ◌-◌, ◌*◌, ◌≤◌, Bool, true, false, not, refl, sym, ap, arith}
use Rattle.std.specs.Prelude.{nat_le, nat_lt}
use Rattle.std.proofs.lemmas.Bool.{leb-true, leb-false, ltb-true, ltb-false}
use Rattle.game_model.specs.Limits.{unit}
use Rattle.fractions.specs.Fraction.{Fraction, rest_of}
use Rattle.formula_reader.specs.declared.formula.Bound.{Bound}
use Rattle.formula_reader.specs.declared.formula.Bound.TheVariants.{AtLeast, Above, AtMost, Below, AskMax, AskMin}
use Rattle.rpatl_syntax.specs.Dual.{IsAtMostOne, dual_bound}
use Rattle.verdicts.specs.Verdict.{reaches, exceeds, verdict_by, verdict_of}

-- a test that holds exactly where another, of a strict order, does not
not_lt : (a b c d : ℕ) → (a ≤ b → d ≤ c) → (d ≤ c → a ≤ b) → nat_le a b ≡ not (nat_lt c d)
not_lt a b c d there back = by (nat_le a b) (nat_lt c d) refl refl
  where
    by : (p q : Bool) → nat_le a b ≡ p → nat_lt c d ≡ q → p ≡ not q
    by true true hp hq =
        let over = there (leb-true a b hp) in
        let under = ltb-true c d hq in
        absurd (omega (arith, over, under))
    by true false hp hq = refl
    by false true hp hq = refl
    by false false hp hq =
        let over = back (ltb-false c d hq) in
        let under = leb-false a b hp in
        absurd (omega (arith, over, under))

-- n of n + m, and x of x + u
products : (n m x u : ℕ)
    → (n * (x + u) ≤ x * (n + m) → u * (n + m) ≤ m * (x + u)) × (u * (n + m) ≤ m * (x + u) → n * (x + u) ≤ x * (n + m))
products n m x u = (λ h. omega (arith, h), λ h. omega (arith, h))

sums : (n m d x u top : ℕ) → n + m ≡ d → x + u ≡ top
    → (n * top ≤ x * d → u * d ≤ m * top) × (u * d ≤ m * top → n * top ≤ x * d)
sums n m d x u top of_d of_top = rw (← of_d, ← of_top) (products n m x u)

flipped : (n d u top : ℕ) → n ≤ d → u ≤ top
    → (n * top ≤ (top - u) * d → u * d ≤ (d - n) * top) × (u * d ≤ (d - n) * top → n * top ≤ (top - u) * d)
flipped n d u top small within = sums n (d - n) d (top - u) u top (omega arith) (omega arith)

involutive : (b : Bool) → not (not b) ≡ b
involutive true = refl
involutive false = refl

-- 1 less so many units is at least p exactly where these are not above the rest of p
reaches-rest : (p : Fraction) (u : ℕ) → p.num ≤ p.den → u ≤ unit → reaches p (unit - u) ≡ not (exceeds (rest_of p) u)
reaches-rest p u small within =
    let both = flipped p.num p.den u unit small within in
    not_lt (p.num * unit) ((unit - u) * p.den) ((p.den - p.num) * unit) (u * p.den) both.0 both.1

-- and above p exactly where these are not at least the rest
exceeds-rest : (p : Fraction) (u : ℕ) → p.num ≤ p.den → u ≤ unit → exceeds p (unit - u) ≡ not (reaches (rest_of p) u)
exceeds-rest p u small within =
    let both = sums (p.den - p.num) p.num p.den u (unit - u) unit (omega arith) (omega arith) in
    let back : reaches (rest_of p) u ≡ not (exceeds p (unit - u)) =
    not_lt ((p.den - p.num) * unit) (u * p.den) (p.num * unit) ((unit - u) * p.den) both.0 both.1 in
    sym (ap not back ∙ involutive (exceeds p (unit - u)))

same_by : (a b c d : Bool) → a ≡ c → b ≡ d → verdict_by a b ≡ verdict_by c d
same_by a b c d of_a of_b = ap (λ x. verdict_by x b) of_a ∙ ap (λ x. verdict_by c x) of_b

pub mirrored : (bound : Bound) (lower upper : ℕ) → IsAtMostOne bound → lower ≤ unit → upper ≤ unit
    → verdict_of bound (unit - upper) (unit - lower) ≡ verdict_of (dual_bound bound) lower upper
mirrored (AtLeast p) lower upper small low high =
    same_by _ _ _ _ (reaches-rest p upper small high)
    (ap not (reaches-rest p lower small low) ∙ involutive (exceeds (rest_of p) lower))
mirrored (Above p) lower upper small low high =
    same_by _ _ _ _ (exceeds-rest p upper small high)
    (ap not (exceeds-rest p lower small low) ∙ involutive (reaches (rest_of p) lower))
mirrored (AtMost p) lower upper small low high =
    same_by _ _ _ _ (ap not (exceeds-rest p lower small low) ∙ involutive (reaches (rest_of p) lower))
    (exceeds-rest p upper small high)
mirrored (Below p) lower upper small low high =
    same_by _ _ _ _ (ap not (reaches-rest p lower small low) ∙ involutive (exceeds (rest_of p) lower))
    (reaches-rest p upper small high)
mirrored AskMax lower upper small low high = refl
mirrored AskMin lower upper small low high = refl
