-- What is known of a state formula, from what is known of its parts.
use Rattle.std.proofs.Common.{◌≡◌, ◌∙◌, ◌+◌, ℕ, Bool, true, false, not, ◌&&◌, ◌||◌, length, arith, sym, ap, subst, refl}
use Rattle.std.specs.Bool.{if◌then◌else◌}
use Rattle.formula_reader.specs.Formula.{State, True, False, And, Or, Implies}
use Rattle.nested_truth.specs.declared.judging.Judged.{Judged}
use Rattle.nested_truth.specs.declared.known_sets.KnownSets.{KnownSets}
use Rattle.formula_sets.specs.Posing.{Model}
use Rattle.formula_truth.specs.declared.way.Way.{Way}
use Rattle.formula_truth.specs.Truth.{states}
use Rattle.formula_truth.specs.ThreeValued.{Known, known, exactly, negated, both, either}
use Rattle.nested_truth.specs.Seen.{AreAlike, IsJudged, seen}

-- 1. What says the same.

pub alike-back : (n : ℕ) (one other : Known) → AreAlike n one other → AreAlike n other one
alike-back n one other h = record { sure = λ s l. sym (h.sure s l); possible = λ s l. sym (h.possible s l) }

pub alike-on : (n : ℕ) (one other third : Known) → AreAlike n one other → AreAlike n other third → AreAlike n one third
alike-on n one other third h i =
    record { sure = λ s l. h.sure s l ∙ i.sure s l; possible = λ s l. h.possible s l ∙ i.possible s l }

pub negated-alike : (n : ℕ) (one other : Known) → AreAlike n one other → AreAlike n (negated one) (negated other)
negated-alike n one other h = record { sure = λ s l. ap not (h.possible s l); possible = λ s l. ap not (h.sure s l) }

pub both-alike : (n : ℕ) (one other third fourth : Known) → AreAlike n one other → AreAlike n third fourth
    → AreAlike n (both one third) (both other fourth)
both-alike n one other third fourth h i = record {
  sure = λ s l. ap (λ b. b && third.sure s) (h.sure s l) ∙ ap (λ b. other.sure s && b) (i.sure s l);
  possible = λ s l. ap (λ b. b && third.possible s) (h.possible s l) ∙ ap (λ b. other.possible s && b) (i.possible s l);
}

pub either-alike : (n : ℕ) (one other third fourth : Known) → AreAlike n one other → AreAlike n third fourth
    → AreAlike n (either one third) (either other fourth)
either-alike n one other third fourth h i = record {
  sure = λ s l. ap (λ b. b || third.sure s) (h.sure s l) ∙ ap (λ b. other.sure s || b) (i.sure s l);
  possible = λ s l. ap (λ b. b || third.possible s) (h.possible s l) ∙ ap (λ b. other.possible s || b) (i.possible s l);
}

-- 2. Formulas without parts.

pub judged-same : (m : Model) (way : Way) (holds : Bool) (n : ℕ) (sets : KnownSets) → n ≡ states m
    → length sets.sure.items ≡ n → AreAlike n (exactly (λ s. holds)) (seen sets)
    → IsJudged m way (if holds then True else False) (record { sets = sets; inner = 0; undecided = 0 })
judged-same m way true n sets is many alike = record {
  bands = tt;
  found = tt;
  many = many ∙ is;
  alike = subst (λ k. AreAlike k (exactly (λ s. true)) (seen sets)) is alike;
  inner_are = refl;
  undecided_are = refl;
}
judged-same m way false n sets is many alike = record {
  bands = tt;
  found = tt;
  many = many ∙ is;
  alike = subst (λ k. AreAlike k (exactly (λ s. false)) (seen sets)) is alike;
  inner_are = refl;
  undecided_are = refl;
}

-- 3. Formulas with parts.

module _ (m : Model) (way : Way) where
  module _ (x y : State) (one other result : Judged) (h : IsJudged m way x one) (i : IsJudged m way y other)
      (many : length result.sets.sure.items ≡ length one.sets.sure.items)
      (inner : result.inner ≡ one.inner + other.inner)
      (undecided : result.undecided ≡ one.undecided + other.undecided) where
    pub judged-and : AreAlike (length one.sets.sure.items) (both (seen one.sets) (seen other.sets)) (seen result.sets)
        → IsJudged m way (And x y) result
    judged-and alike = record {
      bands = (h.bands, i.bands);
      found = (h.found, i.found);
      many = many ∙ h.many;
      alike = alike-on (states m) (both (known m.labels x h.bands) (known m.labels y i.bands))
          (both (seen one.sets) (seen other.sets)) (seen result.sets)
          (both-alike (states m) (known m.labels x h.bands) (seen one.sets) (known m.labels y i.bands)
          (seen other.sets) h.alike i.alike)
          (subst (λ n. AreAlike n (both (seen one.sets) (seen other.sets)) (seen result.sets)) h.many alike);
      inner_are = omega (arith, inner, h.inner_are, i.inner_are);
      undecided_are = omega (arith, undecided, h.undecided_are, i.undecided_are);
    }

    pub judged-or : AreAlike (length one.sets.sure.items) (either (seen one.sets) (seen other.sets)) (seen result.sets)
        → IsJudged m way (Or x y) result
    judged-or alike = record {
      bands = (h.bands, i.bands);
      found = (h.found, i.found);
      many = many ∙ h.many;
      alike = alike-on (states m) (either (known m.labels x h.bands) (known m.labels y i.bands))
          (either (seen one.sets) (seen other.sets)) (seen result.sets)
          (either-alike (states m) (known m.labels x h.bands) (seen one.sets) (known m.labels y i.bands)
          (seen other.sets) h.alike i.alike)
          (subst (λ n. AreAlike n (either (seen one.sets) (seen other.sets)) (seen result.sets)) h.many alike);
      inner_are = omega (arith, inner, h.inner_are, i.inner_are);
      undecided_are = omega (arith, undecided, h.undecided_are, i.undecided_are);
    }

    pub judged-implies : (sets : KnownSets) → length sets.sure.items ≡ length one.sets.sure.items
        → AreAlike (length one.sets.sure.items) (negated (seen one.sets)) (seen sets)
        → AreAlike (length sets.sure.items) (either (seen sets) (seen other.sets)) (seen result.sets)
        → IsJudged m way (Implies x y) result
    judged-implies sets same first alike = record {
      bands = (h.bands, i.bands);
      found = (h.found, i.found);
      many = many ∙ h.many;
      alike = alike-on (states m) (either (negated (known m.labels x h.bands)) (known m.labels y i.bands))
          (either (seen sets) (seen other.sets)) (seen result.sets)
          (either-alike (states m) (negated (known m.labels x h.bands)) (seen sets)
          (known m.labels y i.bands) (seen other.sets)
          (alike-on (states m) (negated (known m.labels x h.bands)) (negated (seen one.sets)) (seen sets)
          (negated-alike (states m) (known m.labels x h.bands) (seen one.sets) h.alike)
          (subst (λ n. AreAlike n (negated (seen one.sets)) (seen sets)) h.many first)) i.alike)
          (subst (λ n. AreAlike n (either (seen sets) (seen other.sets)) (seen result.sets)) (same ∙ h.many) alike);
      inner_are = omega (arith, inner, h.inner_are, i.inner_are);
      undecided_are = omega (arith, undecided, h.undecided_are, i.undecided_are);
    }
