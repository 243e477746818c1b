-- Duals of bounds.
use Rattle.std.proofs.Common.{◌≡◌, ◌<◌, ◌≤◌, ◌+◌, ◌-◌, ◌*◌, ◌↔◌, ℕ, List, ap, refl, subst, arith}
use Rattle.fractions.specs.Fraction.{Fraction, rest_of}
use Rattle.formula_reader.specs.declared.formula.Bound.{Bound}
use Rattle.formula_reader.specs.declared.formula.Bound.TheVariants.{AtLeast, Above, AtMost, Below, AskMax, AskMin}
use Rattle.rpatl_syntax.specs.Dual.{dual_bound, IsAtMostOne, IsMetBy}
use Rattle.formula_reader.specs.Formula.{Tree}
use Rattle.formula_reader.specs.Rules.{IsBound, DenotesFormula}

rest-rest : (p : Fraction) → p.num ≤ p.den → rest_of (rest_of p) ≡ p
rest-rest p small =
    let back : p.den - (p.den - p.num) ≡ p.num = omega arith in
    let fraction : ℕ → Fraction = λ n. record { num = n; den = p.den } in
    ap fraction back

pub dual-dual : (bound : Bound) → IsAtMostOne bound → dual_bound (dual_bound bound) ≡ bound
dual-dual (AtLeast p) small = ap (λ x. AtLeast x) (rest-rest p small)
dual-dual (Above p) small = ap (λ x. Above x) (rest-rest p small)
dual-dual (AtMost p) small = ap (λ x. AtMost x) (rest-rest p small)
dual-dual (Below p) small = ap (λ x. Below x) (rest-rest p small)
dual-dual AskMax small = refl
dual-dual AskMin small = refl

-- a part beside a share, and what is left of both
at_most : (n left a rest : ℕ) → (left * (a + rest) ≤ rest * (n + left)) ↔ (a * (n + left) ≤ n * (a + rest))
at_most n left a rest = (λ h. omega arith, λ h. omega arith)

below : (n left a rest : ℕ) → (left * (a + rest) < rest * (n + left)) ↔ (a * (n + left) < n * (a + rest))
below n left a rest = (λ h. omega arith, λ h. omega arith)

at_least : (n left a rest : ℕ) → (rest * (n + left) ≤ left * (a + rest)) ↔ (n * (a + rest) ≤ a * (n + left))
at_least n left a rest = (λ h. omega arith, λ h. omega arith)

above : (n left a rest : ℕ) → (rest * (n + left) < left * (a + rest)) ↔ (n * (a + rest) < a * (n + left))
above n left a rest = (λ h. omega arith, λ h. omega arith)

-- what is known of a sum is known of its parts
split : (P : ℕ → ℕ → Type 0) (n whole a den : ℕ) → n ≤ whole → a ≤ den
    → P (n + (whole - n)) (a + (den - a)) → P whole den
split P n whole a den small share h =
    let whole_is : n + (whole - n) ≡ whole = omega arith in
    let den_is : a + (den - a) ≡ den = omega arith in
    let Q : ℕ → Type 0 = λ w. P w den in
    subst Q whole_is (subst (P (n + (whole - n))) den_is h)

pub rest-meets : (bound : Bound) (n whole : ℕ) → IsAtMostOne bound → n ≤ whole
    → IsMetBy (dual_bound bound) (whole - n) whole ↔ IsMetBy bound n whole
rest-meets (AtLeast p) n whole share small =
    let P : ℕ → ℕ → Type 0 = λ w d. ((whole - n) * d ≤ (p.den - p.num) * w) ↔ (p.num * w ≤ n * d) in
    split P n whole p.num p.den small share (at_most n (whole - n) p.num (p.den - p.num))
rest-meets (Above p) n whole share small =
    let P : ℕ → ℕ → Type 0 = λ w d. ((whole - n) * d < (p.den - p.num) * w) ↔ (p.num * w < n * d) in
    split P n whole p.num p.den small share (below n (whole - n) p.num (p.den - p.num))
rest-meets (AtMost p) n whole share small =
    let P : ℕ → ℕ → Type 0 = λ w d. ((p.den - p.num) * w ≤ (whole - n) * d) ↔ (n * d ≤ p.num * w) in
    split P n whole p.num p.den small share (at_least n (whole - n) p.num (p.den - p.num))
rest-meets (Below p) n whole share small =
    let P : ℕ → ℕ → Type 0 = λ w d. ((p.den - p.num) * w < (whole - n) * d) ↔ (n * d < p.num * w) in
    split P n whole p.num p.den small share (above n (whole - n) p.num (p.den - p.num))
rest-meets AskMax n whole share small = (λ h. h, λ h. h)
rest-meets AskMin n whole share small = (λ h. h, λ h. h)

bound-small : (ts : List (List ℕ)) (bound : Bound) → IsBound ts bound → IsAtMostOne bound
bound-small ts (AtLeast p) is = is.2.small
bound-small ts (Above p) is = is.2.small
bound-small ts (AtMost p) is = is.2.small
bound-small ts (Below p) is = is.2.small
bound-small ts AskMax is = tt
bound-small ts AskMin is = tt

pub threshold-small : (text : List ℕ) (tree : Tree) → DenotesFormula text tree → IsAtMostOne tree.bound
threshold-small text tree h = bound-small h.formula.asks tree.bound h.formula.bound
