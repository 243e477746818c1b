-- A verdict is true: what the laws of sound bounds say of each kind of bound.
use Rattle.std.proofs.Common.{◌≡◌, ℕ, ◌*◌, ◌<◌, ◌≤◌, Bool, true, false, refl}
use Rattle.std.proofs.lemmas.Bool.{leb-true, leb-false, ltb-true, ltb-false, not-true}
use Rattle.game_model.specs.Query.{Query}
use Rattle.game_model.specs.Bounds.{Reaches, Exceeds}
use Rattle.game_model.specs.Limits.{unit}
use Rattle.formula_reader.specs.declared.formula.Bound.{Bound}
use Rattle.formula_reader.specs.declared.formula.Bound.TheVariants.{AtLeast, Above, AtMost, Below, AskMax, AskMin}
use Rattle.verdicts.specs.declared.verdict.Verdict.TheVariants.{Yes, No}
use Rattle.verdicts.specs.Verdict.{verdict_by, verdict_of}
use Rattle.verdicts.specs.Truth.{IsTrueOf, IsFalseOf}

-- what a lower and an upper bound of the value at a state say of each threshold a/b
pub record AreSound (q : Query) (lower upper s : ℕ) : Type 0 where
  pub reached : (a b : ℕ) → a * unit ≤ lower * b → Reaches q a b s
  pub exceeded : (a b : ℕ) → a * unit < lower * b → Exceeds q a b s
  pub not_exceeded : (a b : ℕ) → upper * b ≤ a * unit → ¬ Exceeds q a b s
  pub not_reached : (a b : ℕ) → upper * b < a * unit → ¬ Reaches q a b s

holds-from_yes : (holds fails : Bool) → verdict_by holds fails ≡ Yes → holds ≡ true
holds-from_yes true fails e = refl
holds-from_yes false true e = absurd (cc)
holds-from_yes false false e = absurd (cc)

fails-from_no : (holds fails : Bool) → verdict_by holds fails ≡ No → fails ≡ true
fails-from_no true fails e = absurd (cc)
fails-from_no false true e = refl
fails-from_no false false e = absurd (cc)

pub yes-true : (q : Query) (bound : Bound) (lower upper s : ℕ) → AreSound q lower upper s
    → verdict_of bound lower upper ≡ Yes → IsTrueOf q bound s
yes-true q (AtLeast p) lower upper s sound e = sound.reached p.num p.den (leb-true _ _ (holds-from_yes _ _ e))
yes-true q (Above p) lower upper s sound e = sound.exceeded p.num p.den (ltb-true _ _ (holds-from_yes _ _ e))
yes-true q (AtMost p) lower upper s sound e =
    sound.not_exceeded p.num p.den (ltb-false _ _ (not-true _ (holds-from_yes _ _ e)))
yes-true q (Below p) lower upper s sound e =
    sound.not_reached p.num p.den (leb-false _ _ (not-true _ (holds-from_yes _ _ e)))
yes-true q AskMax lower upper s sound e = tt
yes-true q AskMin lower upper s sound e = tt

pub no-false : (q : Query) (bound : Bound) (lower upper s : ℕ) → AreSound q lower upper s
    → verdict_of bound lower upper ≡ No → IsFalseOf q bound s
no-false q (AtLeast p) lower upper s sound e =
    sound.not_reached p.num p.den (leb-false _ _ (not-true _ (fails-from_no _ _ e)))
no-false q (Above p) lower upper s sound e =
    sound.not_exceeded p.num p.den (ltb-false _ _ (not-true _ (fails-from_no _ _ e)))
no-false q (AtMost p) lower upper s sound e = sound.exceeded p.num p.den (ltb-true _ _ (fails-from_no _ _ e))
no-false q (Below p) lower upper s sound e = sound.reached p.num p.den (leb-true _ _ (fails-from_no _ _ e))
no-false q AskMax lower upper s sound e = absurd (cc)
no-false q AskMin lower upper s sound e = absurd (cc)

pub false-not_true : (q : Query) (bound : Bound) (s : ℕ) → IsFalseOf q bound s → ¬ IsTrueOf q bound s
false-not_true q (AtLeast p) s fails = fails
false-not_true q (Above p) s fails = fails
false-not_true q (AtMost p) s fails = λ holds. holds fails
false-not_true q (Below p) s fails = λ holds. holds fails
false-not_true q AskMax s fails = absurd fails
false-not_true q AskMin s fails = absurd fails
