-- Coarse bounds of the formulas inside are what a number of rounded steps of the two questions give, with no run.
use Rattle.std.specs.Prelude.{◌≡◌, ◌<◌, ◌≤◌, ◌-◌, ℕ, Bool, true, List, length, slice_index, All}
use Rattle.game_model.specs.Limits.{unit}
use Rattle.game_model.specs.Query.{Query}
use Rattle.game_model.specs.Rounded.{down_steps, opening}
use Rattle.game_model.specs.Dual.{IsZeroSet, swapped}
use Rattle.formula_reader.specs.declared.formula.Bound.{Bound}
use Rattle.formula_reader.specs.declared.formula.PathKind.{PathKind}
use Rattle.formula_reader.specs.declared.formula.PathKind.TheVariants.{Until, Within, Next, Always}
use Rattle.rpatl_syntax.specs.Dual.{dual_of}
use Rattle.formula_reader.specs.Formula.{State, True, False, Label, Not, And, Or, Implies, Inner, Tree}
use Rattle.formula_sets.specs.Posing.{Model, next_question_of}
use Rattle.verdicts.specs.declared.report.How.{How}
use Rattle.verdicts.specs.Verdict.{is_asking, is_undecided}
use Rattle.formula_truth.specs.Truth.{states, everywhere}
use Rattle.formula_truth.specs.ThreeValued.{Band, Bands, Known, known, exactly, negated, verdict_at}
use Rattle.formula_truth.specs.InnerRuns.{AreSwept, pessimistic, optimistic, units_at, mirrored}

-- The lower bounds are the values of this many down steps of one question. The upper ones are the unit less those of as
-- many down steps of the swapped other question.
pub record AreStepped (low high : Query) (n asked : ℕ) (band : Band) : Type 0 where
  pub zero : List Bool
  pub is_zero : IsZeroSet high zero
  pub lowers : length band.lower ≡ n
  pub uppers : length band.upper ≡ n
  pub lower : (s : ℕ) → s < n → slice_index band.lower s ≡ down_steps low asked s
  pub upper : (s : ℕ) → s < n → slice_index band.upper s ≡ unit - down_steps (swapped high zero) asked s

-- These are the coarse bounds of a formula with a path of this kind after this many rounds.
abbrev pub AreCoarseBy : PathKind → Model → Tree → Known → Known → ℕ → Band → Type 0
AreCoarseBy Until m f left right asked band =
    AreStepped (pessimistic m f left right) (optimistic m f left right) (states m) asked band
AreCoarseBy (Within k) m f left right asked band =
    (how : How) × AreSwept (pessimistic m f left right) (optimistic m f left right)
    (opening (pessimistic m f left right)) (opening (optimistic m f left right)) k band how
AreCoarseBy Next m f left right asked band =
    (how : How) × AreSwept (next_question_of m.game m.owners f) (next_question_of m.game m.owners f)
    (units_at right.sure) (units_at right.possible) 1 band how
AreCoarseBy Always m f left right asked band =
    (other : Band) × AreStepped (pessimistic m (dual_of f) (exactly everywhere) (negated right))
    (optimistic m (dual_of f) (exactly everywhere) (negated right)) (states m) asked other × (band ≡ mirrored other)

-- Each formula inside has coarse bounds.
abbrev pub AreCoarse : Model → ℕ → (x : State) → Bands x → Type 0
AreCoarse m asked True b = Unit {0}
AreCoarse m asked False b = Unit {0}
AreCoarse m asked (Label name) b = Unit {0}
AreCoarse m asked (Not x) b = AreCoarse m asked x b
AreCoarse m asked (And x y) b = AreCoarse m asked x b.0 × AreCoarse m asked y b.1
AreCoarse m asked (Or x y) b = AreCoarse m asked x b.0 × AreCoarse m asked y b.1
AreCoarse m asked (Implies x y) b = AreCoarse m asked x b.0 × AreCoarse m asked y b.1
AreCoarse m asked (Inner team bound kind left right) b =
    AreCoarseBy kind m (record { coalition = team; bound = bound; kind = kind; left = left; right = right })
    (known m.labels left b.1) (known m.labels right b.2) asked b.0
    × AreCoarse m asked left b.1 × AreCoarse m asked right b.2

-- A formula has coarse bounds, and so has each formula inside its sides.
pub record IsCoarse (m : Model) (f : Tree) (asked : ℕ) (left : Bands f.left) (right : Bands f.right)
    (band : Band) : Type 0 where
  pub left_coarse : AreCoarse m asked f.left left
  pub right_coarse : AreCoarse m asked f.right right
  pub coarse : AreCoarseBy f.kind m f (known m.labels f.left left) (known m.labels f.right right) asked band

-- What surely holds by the coarse bounds surely holds by the fine ones, and what possibly holds by the fine bounds
-- possibly holds by the coarse ones.
pub record IsFiner (n : ℕ) (fine coarse : Known) : Type 0 where
  pub sure : (s : ℕ) → s < n → coarse.sure s ≡ true → fine.sure s ≡ true
  pub possible : (s : ℕ) → s < n → fine.possible s ≡ true → coarse.possible s ≡ true

-- A band leaves a bound undecided at a state only if the coarse band does.
abbrev pub IsOpenWithin : Bound → Band → Band → ℕ → Type 0
IsOpenWithin bound fine coarse s = is_undecided (verdict_at bound fine s) ≡ true
    → is_undecided (verdict_at bound coarse s) ≡ true

-- Each formula inside is left undecided at one of the first states only if it is by the coarse bands.
abbrev pub AreOpenWithin : ℕ → (x : State) → Bands x → Bands x → Type 0
AreOpenWithin n True fine coarse = Unit {0}
AreOpenWithin n False fine coarse = Unit {0}
AreOpenWithin n (Label name) fine coarse = Unit {0}
AreOpenWithin n (Not x) fine coarse = AreOpenWithin n x fine coarse
AreOpenWithin n (And x y) fine coarse = AreOpenWithin n x fine.0 coarse.0 × AreOpenWithin n y fine.1 coarse.1
AreOpenWithin n (Or x y) fine coarse = AreOpenWithin n x fine.0 coarse.0 × AreOpenWithin n y fine.1 coarse.1
AreOpenWithin n (Implies x y) fine coarse = AreOpenWithin n x fine.0 coarse.0 × AreOpenWithin n y fine.1 coarse.1
AreOpenWithin n (Inner team bound kind left right) fine coarse =
    ((s : ℕ) → s < n → IsOpenWithin bound fine.0 coarse.0 s) × AreOpenWithin n left fine.1 coarse.1
    × AreOpenWithin n right fine.2 coarse.2

-- At each of these states a band leaves a bound undecided only if the coarse band does. If the bound asks for a value,
-- the band lies within the coarse band there.
pub record AreWithin (bound : Bound) (starts : List ℕ) (fine coarse : Band) : Type 0 where
  pub undecided : All (λ s. IsOpenWithin bound fine coarse s) starts
  pub lower : is_asking bound ≡ true → All (λ s. slice_index coarse.lower s ≤ slice_index fine.lower s) starts
  pub upper : is_asking bound ≡ true → All (λ s. slice_index fine.upper s ≤ slice_index coarse.upper s) starts
