-- This module says what bounds and verdicts say of the truth.
use Rattle.std.specs.Prelude.{◌≡◌, ◌<◌, ◌≤◌, ◌*◌, ◌^◌, ℕ, Bool, true, false, slice_index}
use Rattle.game_model.specs.Limits.{unit}
use Rattle.game_model.specs.Values.{denominator, numerator}
use Rattle.game_model.specs.Bounds.{IsNear, IsHigh}
use Rattle.formula_reader.specs.declared.formula.PathKind.{PathKind}
use Rattle.formula_reader.specs.declared.formula.PathKind.TheVariants.{Until, Within, Next, Always}
use Rattle.formula_reader.specs.Formula.{Tree}
use Rattle.formula_sets.specs.Posing.{Model, next_question_of}
use Rattle.bounded_rounds.specs.Exact.{next_numerator}
use Rattle.verdicts.specs.declared.verdict.Verdict.{Verdict}
use Rattle.verdicts.specs.declared.verdict.Verdict.TheVariants.{Yes, No, Undecided, Bracket}
use Rattle.formula_truth.specs.Truth.{states, question_by, dual_question_by}
use Rattle.formula_truth.specs.Rest.{IsBelowRest, IsNearRest}
use Rattle.formula_truth.specs.ThreeValued.{Band, Known}

-- What surely holds does hold, and what holds possibly holds.
pub record IsAround (m : Model) (holds : ℕ → Bool) (known : Known) : Type 0 where
  pub sure : (s : ℕ) → s < states m → known.sure s ≡ true → holds s ≡ true
  pub possible : (s : ℕ) → s < states m → holds s ≡ true → known.possible s ≡ true

-- A value, in this many parts of a unit, lies between two numbers of units.
pub record IsBetween (parts lower upper value : ℕ) : Type 0 where
  pub low : lower * parts ≤ value
  pub high : value ≤ upper * parts

-- The bounds are sound for a formula with a path of this kind whose sides hold at these states. Without a bound on the
-- steps, k-step values come as near to the lower bounds as one likes, and none is above an upper bound. For `G` this is
-- said of 1 less the values of the dual. With a bound on the steps the value lies between the bounds.
abbrev pub AreSoundBy : PathKind → Model → Tree → (ℕ → Bool) → (ℕ → Bool) → Band → Type 0
AreSoundBy Until m f left right band = IsNear (question_by m f left right) (slice_index band.lower)
    × IsHigh (question_by m f left right) (slice_index band.upper)
AreSoundBy (Within k) m f left right band =
    (s : ℕ) → s < states m → IsBetween (denominator m.game ^ k) (slice_index band.lower s) (slice_index band.upper s)
    (unit * numerator (question_by m f left right) k s)
AreSoundBy Next m f left right band =
    (s : ℕ) → s < states m → IsBetween (denominator m.game) (slice_index band.lower s) (slice_index band.upper s)
    (unit * next_numerator (next_question_of m.game m.owners f) right s)
AreSoundBy Always m f left right band =
    (s : ℕ) → s < states m → IsBelowRest (dual_question_by m f right) s (slice_index band.lower s)
    × IsNearRest (dual_question_by m f right) s (slice_index band.upper s)

-- A verdict of yes or no is the truth.
abbrev pub IsRightOf : Verdict → Bool → Type 0
IsRightOf Yes truth = truth ≡ true
IsRightOf No truth = truth ≡ false
IsRightOf Undecided truth = Unit {0}
IsRightOf Bracket truth = Unit {0}
