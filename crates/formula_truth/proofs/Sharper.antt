-- Verdicts of nearer bounds say what those of wider ones say.
use Rattle.std.proofs.Common.{◌≡◌, ◌≤◌, ◌*◌, ◌⊎◌, inl, inr, ℕ, Bool, true, false, not, refl, le_trans}
use Rattle.std.proofs.lemmas.Bool.{leb-true, le-leb, ltb-true, lt-ltb}
use Rattle.std.proofs.Math.Nat.{mul-le-mul_right}
use Rattle.fractions.specs.Fraction.{Fraction}
use Rattle.game_model.specs.Limits.{unit}
use Rattle.formula_reader.specs.declared.formula.Bound.{Bound}
use Rattle.formula_reader.specs.declared.formula.Bound.TheVariants.{AtLeast, Above, AtMost, Below, AskMax, AskMin}
use Rattle.verdicts.specs.declared.verdict.Verdict.{Verdict}
use Rattle.verdicts.specs.Verdict.{reaches, exceeds, verdict_by, verdict_of, is_settling, is_yes, is_no, is_undecided}

-- what a verdict says another one says, which is undecided only where it is
pub record IsSharper (coarse fine : Verdict) : Type 0 where
  pub yes : is_yes coarse ≡ true → is_yes fine ≡ true
  pub no : is_no coarse ≡ true → is_no fine ≡ true
  pub undecided : is_undecided fine ≡ true → is_undecided coarse ≡ true

-- the test that a bound makes of units; one that asks for a value makes none
abbrev pub test_of : Bound → ℕ → Bool
test_of (AtLeast p) units = reaches p units
test_of (Above p) units = exceeds p units
test_of (AtMost p) units = exceeds p units
test_of (Below p) units = reaches p units
test_of AskMax units = false
test_of AskMin units = false

reaches-more : (p : Fraction) (u v : ℕ) → u ≤ v → reaches p u ≡ true → reaches p v ≡ true
reaches-more p u v more is =
    le-leb (p.num * unit) (v * p.den) (le_trans (leb-true (p.num * unit) (u * p.den) is) (mul-le-mul_right p.den more))

exceeds-more : (p : Fraction) (u v : ℕ) → u ≤ v → exceeds p u ≡ true → exceeds p v ≡ true
exceeds-more p u v more is =
    lt-ltb (p.num * unit) (v * p.den) (le_trans (ltb-true (p.num * unit) (u * p.den) is) (mul-le-mul_right p.den more))

-- what passes it does so with more units
pub test-more : (bound : Bound) (u v : ℕ) → u ≤ v → test_of bound u ≡ true → test_of bound v ≡ true
test-more (AtLeast p) u v more is = reaches-more p u v more is
test-more (Above p) u v more is = exceeds-more p u v more is
test-more (AtMost p) u v more is = exceeds-more p u v more is
test-more (Below p) u v more is = reaches-more p u v more is
test-more AskMax u v more is = is
test-more AskMin u v more is = is

-- 1. Two tests, of a lower and of an upper bound.

at-least : (low high low' high' : Bool) → (low ≡ true → low' ≡ true) → (high' ≡ true → high ≡ true)
    → (low' ≡ true → high' ≡ true) → IsSharper (verdict_by low (not high)) (verdict_by low' (not high'))
at-least true high true high' up down order = record {
  yes = λ e. refl;
  no = λ e. let no : false ≡ true = e in absurd (cc);
  undecided = λ e. let no : false ≡ true = e in absurd (cc);
}
at-least true high false high' up down order = let no : false ≡ true = up refl in absurd (cc)
at-least false true true high' up down order = record {
  yes = λ e. refl;
  no = λ e. let no : false ≡ true = e in absurd (cc);
  undecided = λ e. let no : false ≡ true = e in absurd (cc);
}
at-least false true false true up down order = record { yes = λ e. e; no = λ e. e; undecided = λ e. e }
at-least false true false false up down order = record {
  yes = λ e. let no : false ≡ true = e in absurd (cc);
  no = λ e. refl;
  undecided = λ e. let no : false ≡ true = e in absurd (cc);
}
at-least false false low' true up down order = let no : false ≡ true = down refl in absurd (cc)
at-least false false true false up down order = let no : false ≡ true = order refl in absurd (cc)
at-least false false false false up down order = record { yes = λ e. e; no = λ e. e; undecided = λ e. e }

at-most : (low high low' high' : Bool) → (low ≡ true → low' ≡ true) → (high' ≡ true → high ≡ true)
    → (low' ≡ true → high' ≡ true) → IsSharper (verdict_by (not high) low) (verdict_by (not high') low')
at-most low false low' true up down order = let no : false ≡ true = down refl in absurd (cc)
at-most low high true false up down order = let no : false ≡ true = order refl in absurd (cc)
at-most true high false high' up down order = let no : false ≡ true = up refl in absurd (cc)
at-most low false false false up down order = record {
  yes = λ e. refl;
  no = λ e. let no : false ≡ true = e in absurd (cc);
  undecided = λ e. let no : false ≡ true = e in absurd (cc);
}
at-most false true false false up down order = record {
  yes = λ e. refl;
  no = λ e. let no : false ≡ true = e in absurd (cc);
  undecided = λ e. let no : false ≡ true = e in absurd (cc);
}
at-most true true true true up down order = record { yes = λ e. e; no = λ e. e; undecided = λ e. e }
at-most false true true true up down order = record {
  yes = λ e. let no : false ≡ true = e in absurd (cc);
  no = λ e. refl;
  undecided = λ e. let no : false ≡ true = e in absurd (cc);
}
at-most false true false true up down order = record { yes = λ e. e; no = λ e. e; undecided = λ e. e }

-- 2. Of every bound.

pub alike : (verdict : Verdict) → IsSharper verdict verdict
alike verdict = record { yes = λ e. e; no = λ e. e; undecided = λ e. e }

pub sharper : (bound : Bound) (low high low' high' : ℕ) → low' ≤ high'
    → (test_of bound low ≡ true → test_of bound low' ≡ true) → (test_of bound high' ≡ true → test_of bound high ≡ true)
    → IsSharper (verdict_of bound low high) (verdict_of bound low' high')
sharper (AtLeast p) low high low' high' order up down = at-least (reaches p low) (reaches p high) (reaches p low')
    (reaches p high') up down (reaches-more p low' high' order)
sharper (Above p) low high low' high' order up down = at-least (exceeds p low) (exceeds p high) (exceeds p low')
    (exceeds p high') up down (exceeds-more p low' high' order)
sharper (AtMost p) low high low' high' order up down = at-most (exceeds p low) (exceeds p high) (exceeds p low')
    (exceeds p high') up down (exceeds-more p low' high' order)
sharper (Below p) low high low' high' order up down = at-most (reaches p low) (reaches p high) (reaches p low')
    (reaches p high') up down (reaches-more p low' high' order)
sharper AskMax low high low' high' order up down = alike (verdict_of AskMax low high)
sharper AskMin low high low' high' order up down = alike (verdict_of AskMin low high)

pub nearer : (bound : Bound) (low high low' high' : ℕ) → low' ≤ high' → low ≤ low' → high' ≤ high
    → IsSharper (verdict_of bound low high) (verdict_of bound low' high')
nearer bound low high low' high' order more less =
    sharper bound low high low' high' order (test-more bound low low' more) (test-more bound high' high less)

-- 3. A threshold that is settled: the lower bound passes its test, or the upper one fails it.

either-at-least : (low high : Bool) → is_settling (verdict_by low (not high)) ≡ true → (low ≡ true) ⊎ (high ≡ false)
either-at-least true high e = inl refl
either-at-least false true e = let no : false ≡ true = e in absurd (cc)
either-at-least false false e = inr refl

either-at-most : (low high : Bool) → is_settling (verdict_by (not high) low) ≡ true → (low ≡ true) ⊎ (high ≡ false)
either-at-most low false e = inr refl
either-at-most true true e = inl refl
either-at-most false true e = let no : false ≡ true = e in absurd (cc)

pub settled-test : (bound : Bound) (low high : ℕ) → is_settling (verdict_of bound low high) ≡ true
    → (test_of bound low ≡ true) ⊎ (test_of bound high ≡ false)
settled-test (AtLeast p) low high e = either-at-least (reaches p low) (reaches p high) e
settled-test (Above p) low high e = either-at-least (exceeds p low) (exceeds p high) e
settled-test (AtMost p) low high e = either-at-most (exceeds p low) (exceeds p high) e
settled-test (Below p) low high e = either-at-most (reaches p low) (reaches p high) e
settled-test AskMax low high e = let no : false ≡ true = e in absurd (cc)
settled-test AskMin low high e = let no : false ≡ true = e in absurd (cc)
