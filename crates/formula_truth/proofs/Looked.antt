-- A run at a state where it looks whether its threshold is settled: what its bounds say of the threshold,
-- so many down steps of the two questions do not say better.
use Rattle.std.proofs.Common.{◌≡◌, ◌∙◌, ◌<◌, ◌≤◌, inl, inr, ◌+◌, ◌-◌, ◌*◌, ◌^◌, ℕ, Bool, true, false, List, length}
use Rattle.std.proofs.Common.{get_or, arith, sym, ap, subst, le_trans}
use Rattle.std.specs.Prelude.{slice_index}
use Rattle.std.specs.List.{range_with_len}
use Rattle.std.proofs.Math.Nat.{mul-le-mul_left, mul-le-mul_right, mul-pos, one-le-pow, le_of_mul-le-mul_left}
use Rattle.std.proofs.lemmas.List.FromFn.{get_or-range_with_len, length-range_with_len}
use Rattle.game_model.specs.Game.{choices_of}
use Rattle.game_model.specs.Limits.{unit}
use Rattle.game_model.specs.Query.{Query, IsQuery}
use Rattle.game_model.specs.Values.{denominator, numerator}
use Rattle.game_model.specs.Rounded.{down_steps}
use Rattle.game_model.specs.Dual.{IsZeroSet, open_numerator, swapped}
use Rattle.game_model.proofs.Choices.{AreChoicesOf, AreChoicesOf-choices_of, denominator-pos}
use Rattle.game_model.proofs.Marked.{marked-none, marked-goal}
use Rattle.game_model.proofs.Open.{numerator-open}
use Rattle.game_model.proofs.Swap.{open_numerator-swapped}
use Rattle.game_laws.proofs.Low.{down_steps-below}
use Rattle.formula_reader.specs.declared.formula.Bound.{Bound}
use Rattle.formula_reader.specs.declared.formula.Bound.TheVariants.{AtLeast, Above, AtMost, Below, AskMax, AskMin}
use Rattle.verdicts.specs.Verdict.{verdict_of, is_settling, is_asking}
use Rattle.bracket_engine.specs.declared.bounds.Bracket.{Bracket}
use Rattle.bracket_engine.specs.BracketOfRun.{IsBracketOfRun}
use Rattle.bracket_engine.specs.Stop.{AreSettledAt}
use Rattle.formula_truth.proofs.Sharper.{test_of, test-more, settled-test}

-- 1. Where a run looks.

-- a threshold that is settled at each of the states is so here
abbrev pub IsLookedAt : Bound → List ℕ → ℕ → Type 0
IsLookedAt bound starts s = (lower upper : ℕ → ℕ) → AreSettledAt bound starts lower upper
    → is_settling (verdict_of bound (lower s) (upper s)) ≡ true

pub looked-start : (bound : Bound) (starts : List ℕ) (k d : ℕ) → k < length starts
    → IsLookedAt bound starts (get_or starts k d)
looked-start bound starts k d inside = λ lower upper settled. settled k d inside

pub looked-everywhere : (bound : Bound) (n s : ℕ) → s < n → IsLookedAt bound (range_with_len 0 n) s
looked-everywhere bound n s inside =
    let here : get_or (range_with_len 0 n) s 0 ≡ s = omega (arith, get_or-range_with_len 0 n s 0 inside) in
    subst (λ t. IsLookedAt bound (range_with_len 0 n) t) here
    (looked-start bound (range_with_len 0 n) s 0 (omega (arith, inside, length-range_with_len 0 n)))

-- a run for a value never is settled
pub asking-open : (bound : Bound) (lower upper : ℕ) → is_asking bound ≡ true
    → is_settling (verdict_of bound lower upper) ≡ true → ⊥
asking-open (AtLeast p) lower upper asking settled = let no : false ≡ true = asking in absurd (cc)
asking-open (Above p) lower upper asking settled = let no : false ≡ true = asking in absurd (cc)
asking-open (AtMost p) lower upper asking settled = let no : false ≡ true = asking in absurd (cc)
asking-open (Below p) lower upper asking settled = let no : false ≡ true = asking in absurd (cc)
asking-open AskMax lower upper asking settled = let no : false ≡ true = settled in absurd (cc)
asking-open AskMin lower upper asking settled = let no : false ≡ true = settled in absurd (cc)

-- 2. Sound bounds and down steps.

below-above : (low high top n p : ℕ) → 0 < p → low * p ≤ top * n → top * n ≤ high * p → low ≤ high
below-above low high top n p some below above =
    let whole : p * low ≤ p * high = omega (arith, below, above) in
    le_of_mul-le-mul_left whole some

within-top : (b c top n o r h p : ℕ) → 0 < h → 0 < p → b * h ≤ top * n → n * p ≤ o * h → o + r ≡ p
    → c * p ≤ top * r → b + c ≤ top
within-top b c top n o r h p some_h some_p low opened both swapped_low =
    let whole : h * p * (b + c) ≤ h * p * top =
    omega (
      arith,
      mul-le-mul_right p low,
      mul-le-mul_left top opened,
      mul-le-mul_left h swapped_low,
      ap (λ x. top * h * x) both,
    ) in
    le_of_mul-le-mul_left whole (mul-pos some_h some_p)

module _ (q : Query) (zero : List Bool) (bound : Bound) (starts : List ℕ) (asked : ℕ) (found : Bracket)
    (posed : IsQuery q) (is_zero : IsZeroSet q zero) (run : IsBracketOfRun q zero bound starts asked found)
    (s : ℕ) (inside : s < length q.game) where
  some-parts : (k : ℕ) → 0 < denominator q.game ^ k
  some-parts k = omega (arith, one-le-pow k (denominator q.game) (denominator-pos q.game posed.game))

  chosen : AreChoicesOf q.game (choices_of q.game)
  chosen = AreChoicesOf-choices_of q.game posed.game

  -- no lower bound is above down steps, and no upper bound below them
  down-upper : down_steps q asked s ≤ slice_index found.plan.upper.items s
  down-upper =
      below-above (down_steps q asked s) (slice_index found.plan.upper.items s) unit (numerator q asked s)
      (denominator q.game ^ asked) (some-parts asked)
      (down_steps-below q chosen asked s) (run.bounds.sound.high asked s inside)

  base-rest : slice_index found.base.items s + down_steps (swapped q zero) asked s ≤ unit
  base-rest =
      let h = run.bounds.sound.low.horizon in
      within-top (slice_index found.base.items s) (down_steps (swapped q zero) asked s) unit (numerator q h s)
      (open_numerator q zero asked s) (numerator (swapped q zero) asked s)
      (denominator q.game ^ h) (denominator q.game ^ asked) (some-parts h) (some-parts asked)
      (run.bounds.sound.low.below s inside)
      (omega (arith, numerator-open q zero chosen (marked-none q zero is_zero) h asked s))
      (open_numerator-swapped q zero chosen posed.sides (marked-goal q zero is_zero) asked s
      (omega (arith, inside, posed.sides)))
      (down_steps-below (swapped q zero) chosen asked s)

  module _ (looked : IsLookedAt bound starts s) where
    -- 3. What the down steps pass the lower bounds pass, and what the upper bounds pass the rest of the others does.

    pub lower-valuation : test_of bound (down_steps q asked s) ≡ true
        → test_of bound (slice_index found.plan.lower.items s) ≡ true
    lower-valuation passes = elim run.bounds.near.narrow_asked [
      | inl settled ↦ elim (settled-test bound _ _
          (looked (slice_index found.base.items) (slice_index found.plan.upper.items) settled)) [
            | inl valuation ↦ test-more bound (slice_index found.base.items s) (slice_index found.plan.lower.items s)
                (run.lower.above s inside) valuation
            | inr fails ↦
                let no : false ≡ true =
                sym fails
                ∙ test-more bound (down_steps q asked s) (slice_index found.plan.upper.items s) down-upper passes in
                absurd (cc)
          ]
      | inr narrow ↦ test-more bound (down_steps q asked s) (slice_index found.plan.lower.items s)
          (le_trans (narrow.swept s inside) (run.lower.above s inside)) passes
    ]

    pub upper-valuation : test_of bound (slice_index found.plan.upper.items s) ≡ true
        → test_of bound (unit - down_steps (swapped q zero) asked s) ≡ true
    upper-valuation passes = elim run.bounds.near.narrow_asked [
      | inl settled ↦ elim (settled-test bound _ _
          (looked (slice_index found.base.items) (slice_index found.plan.upper.items) settled)) [
            | inl valuation ↦ test-more bound (slice_index found.base.items s)
                (unit - down_steps (swapped q zero) asked s)
                (omega (arith, base-rest)) valuation
            | inr fails ↦ let no : false ≡ true = sym fails ∙ passes in absurd (cc)
          ]
      | inr narrow ↦ test-more bound (slice_index found.plan.upper.items s) (unit - down_steps (swapped q zero) asked s)
          (omega (arith, narrow.swept_above s inside)) passes
    ]

    -- 4. The bounds of a run for a value are no wider than the down steps.

    pub asked-lower : is_asking bound ≡ true → down_steps q asked s ≤ slice_index found.plan.lower.items s
    asked-lower asking = elim run.bounds.near.narrow_asked [
      | inl settled ↦ absurd
          (asking-open bound _ _ asking
          (looked (slice_index found.base.items) (slice_index found.plan.upper.items) settled))
      | inr narrow ↦ le_trans (narrow.swept s inside) (run.lower.above s inside)
    ]

    pub asked-upper : is_asking bound ≡ true
        → slice_index found.plan.upper.items s ≤ unit - down_steps (swapped q zero) asked s
    asked-upper asking = elim run.bounds.near.narrow_asked [
      | inl settled ↦ absurd
          (asking-open bound _ _ asking
          (looked (slice_index found.base.items) (slice_index found.plan.upper.items) settled))
      | inr narrow ↦ omega (arith, narrow.swept_above s inside)
    ]
