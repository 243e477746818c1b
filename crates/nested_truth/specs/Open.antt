-- This module says when the threshold of a formula whose sides are known is left open.
use Rattle.std.specs.Prelude.{◌^◌, ℕ, Bool, List, slice_index}
use Rattle.game_model.specs.Query.{Query}
use Rattle.game_model.specs.Values.{denominator, numerator}
use Rattle.game_model.specs.Dual.{IsZeroSet}
use Rattle.formula_reader.specs.declared.formula.Bound.{Bound}
use Rattle.formula_reader.specs.declared.formula.PathKind.{PathKind}
use Rattle.formula_reader.specs.declared.formula.PathKind.TheVariants.{Until, Within, Next, Always}
use Rattle.rpatl_syntax.specs.Dual.{dual_bound}
use Rattle.formula_reader.specs.Formula.{Tree}
use Rattle.formula_sets.specs.Posing.{Model, next_question_of}
use Rattle.bounded_rounds.specs.Exact.{next_numerator}
use Rattle.verdicts.specs.Open.{IsLeftOpen, IsLeftOpenBy}
use Rattle.formula_truth.specs.Truth.{question_by, dual_question_by}
use Rattle.formula_truth.specs.ThreeValued.{Band}
use Rattle.formula_truth.specs.InnerRuns.{mirrored}

-- The threshold of a question is left open at a state by a band, by as many rounded steps as rounds were asked for, and
-- by the values of as many steps, over its zero set.
pub record IsRunOpen (q : Query) (bound : Bound) (asked : ℕ) (band : Band) (s : ℕ) : Type 0 where
  pub zero : List Bool
  pub is_zero : IsZeroSet q zero
  pub is_open : IsLeftOpen q zero bound asked (slice_index band.lower) (slice_index band.upper) s

-- The threshold of a formula with a path of this kind, whose sides hold at these states, is left open at a state.
-- Without a bound on the steps a run leaves it open. With one the exact value does. For `G` the mirrored bounds leave
-- the threshold of the dual open.
abbrev pub IsOpenBy : PathKind → Model → Tree → (ℕ → Bool) → (ℕ → Bool) → ℕ → Band → ℕ → Type 0
IsOpenBy Until m f left right asked band s = IsRunOpen (question_by m f left right) f.bound asked band s
IsOpenBy (Within k) m f left right asked band s =
    IsLeftOpenBy f.bound k (numerator (question_by m f left right) k s) (denominator m.game ^ k)
    (slice_index band.lower s) (slice_index band.upper s)
IsOpenBy Next m f left right asked band s =
    IsLeftOpenBy f.bound 1 (next_numerator (next_question_of m.game m.owners f) right s) (denominator m.game)
    (slice_index band.lower s) (slice_index band.upper s)
IsOpenBy Always m f left right asked band s =
    IsRunOpen (dual_question_by m f right) (dual_bound f.bound) asked (mirrored band) s
