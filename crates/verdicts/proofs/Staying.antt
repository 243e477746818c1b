-- A threshold that is settled stays settled where the bounds come nearer.
use Rattle.std.proofs.Common.{◌≡◌, ℕ, ◌*◌, ◌≤◌, Bool, true, false, not, refl, le_trans}
use Rattle.std.proofs.lemmas.Bool.{leb-true, le-leb, ltb-true, lt-ltb}
use Rattle.std.proofs.Math.Nat.{mul-le-mul_right}
use Rattle.game_model.specs.Limits.{unit}
use Rattle.fractions.specs.Fraction.{Fraction}
use Rattle.formula_reader.specs.declared.formula.Bound.{Bound}
use Rattle.formula_reader.specs.declared.formula.Bound.TheVariants.{AtLeast, Above, AtMost, Below, AskMax, AskMin}
use Rattle.verdicts.specs.Verdict.{reaches, exceeds, verdict_by, verdict_of, is_settling}

-- more units are as much
reaches-more : (p : Fraction) (u v : ℕ) → u ≤ v → reaches p u ≡ true → reaches p v ≡ true
reaches-more p u v more is =
    le-leb (p.num * unit) (v * p.den) (le_trans (leb-true (p.num * unit) (u * p.den) is) (mul-le-mul_right p.den more))

exceeds-more : (p : Fraction) (u v : ℕ) → u ≤ v → exceeds p u ≡ true → exceeds p v ≡ true
exceeds-more p u v more is =
    lt-ltb (p.num * unit) (v * p.den) (le_trans (ltb-true (p.num * unit) (u * p.den) is) (mul-le-mul_right p.den more))

-- a test that follows from another one
pub not-back : (a b : Bool) → (b ≡ true → a ≡ true) → not a ≡ true → not b ≡ true
not-back true b back is = absurd (cc)
not-back false true back is = back refl
not-back false false back is = refl

pub by-more : (a b c d : Bool) → (a ≡ true → c ≡ true) → (b ≡ true → d ≡ true) → is_settling (verdict_by a b) ≡ true
    → is_settling (verdict_by c d) ≡ true
by-more a b true d first second is = refl
by-more a b false true first second is = refl
by-more true b false false first second is = first refl
by-more false true false false first second is = second refl
by-more false false false false first second is = is

pub settled-on : (bound : Bound) (lower lower' upper upper' : ℕ) → lower ≤ lower' → upper' ≤ upper
    → is_settling (verdict_of bound lower upper) ≡ true → is_settling (verdict_of bound lower' upper') ≡ true
settled-on (AtLeast p) l l' u u' more less is =
    by-more _ _ _ _ (reaches-more p l l' more) (not-back (reaches p u) (reaches p u') (reaches-more p u' u less)) is
settled-on (Above p) l l' u u' more less is =
    by-more _ _ _ _ (exceeds-more p l l' more) (not-back (exceeds p u) (exceeds p u') (exceeds-more p u' u less)) is
settled-on (AtMost p) l l' u u' more less is =
    by-more _ _ _ _ (not-back (exceeds p u) (exceeds p u') (exceeds-more p u' u less)) (exceeds-more p l l' more) is
settled-on (Below p) l l' u u' more less is =
    by-more _ _ _ _ (not-back (reaches p u) (reaches p u') (reaches-more p u' u less)) (reaches-more p l l' more) is
settled-on AskMax l l' u u' more less is = is
settled-on AskMin l l' u u' more less is = is
