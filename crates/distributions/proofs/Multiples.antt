-- Common denominators.
use Rattle.std.proofs.Common.{◌≡◌, ◌∙◌, ◌<◌, ◌≤◌, ◌+◌, ◌*◌, ◌/◌, inl, inr, ℕ, suc, List, [], ◌∷◌, refl, ap, sym, subst}
use Rattle.std.proofs.Common.{cond, length, get_or, drop, add-one, arith, Result, Ok, Err}
use Prim.Native.Nat.{◌∣◌}
use Rattle.std.specs.Prelude.{All, nat_lt}
use Rattle.std.proofs.lemmas.List.Elements.{All-nil, All-cons}
use Rattle.std.proofs.lemmas.Nat.Gcd.{dvd_refl, dvd_trans, dvd_antisymm, le_of_dvd}
use Rattle.std.proofs.Math.Nat.{one-dvd, mul-div_assoc, mul-div_cancel', mul-le-mul_right}
use Rattle.std.proofs.Math.Seq.{drop-cons}
use Rattle.std.proofs.lemmas.Bool.{le-ltb, ltb-false}
use Rattle.distributions.specs.declared.choice.Part.{Part}
use Rattle.distributions.specs.declared.choice.ChoiceFault.{ChoiceFault}
use Rattle.distributions.specs.declared.choice.ChoiceFault.TheVariants.{TooFine}
use Rattle.fractions.specs.Limits.{finest, most_value}
use Rattle.fractions.specs.Divisors.{lcm}
use Rattle.fractions.specs.Fraction.{IsFraction}
use Rattle.distributions.specs.Parts.{denominator_said, IsCommonDenominator}
use Rattle.fractions.proofs.Euclid.{lcm-left, lcm-right, lcm-least, lcm-pos}
use Rattle.numerals.proofs.Grammar.{chosen}

pub lcm_some : (a b : ℕ) → 1 ≤ a → 1 ≤ b → 1 ≤ lcm a b
lcm_some a b ha hb = lcm-pos a b ha hb

-- what every part keeps
abbrev pub AreKept : List Part → Type 0
AreKept parts = All (λ part. IsFraction part.share) parts

tail : (part : Part) (parts : List Part) → AreKept (part ∷ parts) → AreKept parts
tail part parts h = λ k d l. h (suc k) d (omega arith)

head : (part : Part) (parts : List Part) → AreKept (part ∷ parts) → 1 ≤ part.share.den
head part parts h = (h 0 part (omega arith)).positive

-- the least common multiple of a number and the denominators
pub over : ℕ → List Part → ℕ
over common [] = common
over common (part ∷ parts) = over (lcm common part.share.den) parts

over-pos : (common : ℕ) (parts : List Part) → 1 ≤ common → AreKept parts → 1 ≤ over common parts
unfolding over
over-pos common [] h kept = h
over-pos common (part ∷ parts) h kept = over-pos (lcm common part.share.den) parts
    (lcm-pos common part.share.den h (head part parts kept)) (tail part parts kept)

over-first : (common : ℕ) (parts : List Part) → AreKept parts → common ∣ over common parts
unfolding over
over-first common [] kept = dvd_refl common
over-first common (part ∷ parts) kept = dvd_trans common (lcm-left common part.share.den (head part parts kept))
    (over-first (lcm common part.share.den) parts (tail part parts kept))

over-each : (common : ℕ) (parts : List Part) → AreKept parts → All (λ part. part.share.den ∣ over common parts) parts
unfolding over
over-each common [] kept = All-nil (λ (part : Part). part.share.den ∣ common)
over-each common (part ∷ parts) kept =
    All-cons (λ (p : Part). p.share.den ∣ over (lcm common part.share.den) parts) part parts
    (dvd_trans part.share.den (lcm-right common part.share.den)
    (over-first (lcm common part.share.den) parts (tail part parts kept)))
    (over-each (lcm common part.share.den) parts (tail part parts kept))

over-least : (common : ℕ) (parts : List Part) (m : ℕ) → AreKept parts → common ∣ m
    → All (λ part. part.share.den ∣ m) parts → over common parts ∣ m
unfolding over
over-least common [] m kept h each = h
over-least common (part ∷ parts) m kept h each =
    over-least (lcm common part.share.den) parts m (tail part parts kept)
    (lcm-least common part.share.den m (head part parts kept) h (each 0 part (omega arith)))
    (λ k d l. each (suc k) d (omega arith))

pub over-is : (parts : List Part) → AreKept parts → IsCommonDenominator (over 1 parts) parts
over-is parts kept = record {
  positive = over-pos 1 parts (omega arith) kept;
  multiple = over-each 1 parts kept;
  least = λ m each. over-least 1 parts m kept (one-dvd m) each;
}

ok-same : (a b : ℕ) → ◌≡◌ {A = Result ℕ ChoiceFault} (Ok a) (Ok b) → a ≡ b
ok-same a b e = cc

-- what is said is that multiple, and it is in range
pub denominator-found : (first : ℕ) (parts : List Part) (common : ℕ) → first ≤ finest
    → denominator_said first parts ≡ Ok common → (common ≡ over first parts) × (common ≤ finest)
unfolding over
denominator-found first [] common fine is = (sym (ok-same first common is), omega (arith, ok-same first common is))
denominator-found first (part ∷ parts) common fine is =
    elim (chosen (nat_lt finest (lcm first part.share.den)) (Err (TooFine first part.share.den))
    (denominator_said (lcm first part.share.den) parts) (Ok common) is) [
      | inl t ↦ cc t.1
      | inr t ↦ denominator-found (lcm first part.share.den) parts common
          (ltb-false finest (lcm first part.share.den) t.0) t.1
    ]

pub denominator-again : (first : ℕ) (parts : List Part) → 1 ≤ first → AreKept parts → over first parts ≤ finest
    → denominator_said first parts ≡ Ok (over first parts)
unfolding over
denominator-again first [] some kept fine = refl
denominator-again first (part ∷ parts) some kept fine =
    let next : ℕ = lcm first part.share.den in
    let pos : 1 ≤ next = lcm-pos first part.share.den some (head part parts kept) in
    let within : next ≤ over next parts =
    le_of_dvd (over-pos next parts pos (tail part parts kept)) (over-first next parts (tail part parts kept)) in
    ap (λ b. cond b (Err (TooFine first part.share.den)) (denominator_said next parts))
    (le-ltb finest next (omega (arith, within, fine)))
    ∙ denominator-again next parts pos (tail part parts kept) fine

pub denominator-is : (parts : List Part) (common : ℕ) → AreKept parts → denominator_said 1 parts ≡ Ok common
    → IsCommonDenominator common parts
denominator-is parts common kept is =
    let P : ℕ → Type 0 = λ n. IsCommonDenominator n parts in
    subst P (sym (denominator-found 1 parts common (omega arith) is).0) (over-is parts kept)

-- there is but one least common multiple
pub common-same : (a b : ℕ) (parts : List Part) → IsCommonDenominator a parts → IsCommonDenominator b parts → a ≡ b
common-same a b parts p q = dvd_antisymm (p.least b q.multiple) (q.least a p.multiple)

-- a share over the common denominator
pub share_weight : (num common den : ℕ) → den ∣ common → num * (common / den) ≡ num * common / den
share_weight num common den h = sym (mul-div_assoc den num h)

pub share_small : (num common den : ℕ) → den ∣ common → num ≤ most_value * den
    → num * (common / den) ≤ most_value * common
share_small num common den h small =
    let whole : den * (common / den) ≡ common = mul-div_cancel' den h in
    omega (arith, mul-le-mul_right (common / den) small, ap (λ n. most_value * n) whole)

-- one denominator more
pub denominator_step : (parts : List Part) (i common multiple : ℕ) (part : Part) → i < length parts
    → part ≡ get_or parts i part → multiple ≡ lcm common part.share.den → multiple ≤ finest
    → denominator_said multiple (drop (i + 1) parts) ≡ denominator_said common (drop i parts)
denominator_step parts i common multiple part h is value fine =
    let split : drop i parts ≡ part ∷ drop (i + 1) parts = drop-cons parts i part h
    ∙ ap (λ p. p ∷ drop (suc i) parts) (sym is) ∙ ap (λ n. part ∷ drop n parts) (sym (add-one i)) in
    let next : ℕ = lcm common part.share.den in
    let within : next ≤ finest = omega (arith, value, fine) in
    ap (λ n. denominator_said n (drop (i + 1) parts)) value
    ∙ sym (ap (λ ps. denominator_said common ps) split
    ∙ ap (λ b. cond b (Err (TooFine common part.share.den)) (denominator_said next (drop (i + 1) parts)))
    (le-ltb finest next within))

-- a share of a part
pub part_small : (parts : List Part) (i m : ℕ) (part : Part) → i < length parts → part ≡ get_or parts i part
    → All (λ p. p.share.den ∣ m) parts → part.share.den ∣ m
part_small parts i m part h is each = let P : Part → Type 0 = λ p. p.share.den ∣ m in subst P (sym is) (each i part h)
