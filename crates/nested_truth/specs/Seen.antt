-- This module says what contracts see of the values of the code.
use Rattle.std.specs.Prelude.{◌≡◌, ◌<◌, ◌≤◌, ℕ, false, length, slice_index_or, All, Option, Some, None}
use Rattle.game_model.specs.Limits.{unit}
use Rattle.game_model.specs.Query.{Query}
use Rattle.formula_reader.specs.Formula.{State, formulas_in}
use Rattle.nested_truth.specs.declared.answer.Nested.{Nested}
use Rattle.nested_truth.specs.declared.bounds.Bounds.{Bounds}
use Rattle.nested_truth.specs.declared.judging.Judged.{Judged}
use Rattle.nested_truth.specs.declared.known_sets.KnownSets.{KnownSets}
use Rattle.nested_truth.specs.declared.setting.Setting.{Setting}
use Rattle.formula_sets.specs.Posing.{Model}
use Rattle.formula_truth.specs.declared.way.Way.{Way}
use Rattle.formula_truth.specs.Truth.{states}
use Rattle.formula_truth.specs.ThreeValued.{Band, Bands, Known, known, undecided_in}
use Rattle.formula_truth.specs.InnerRuns.{AreFound}

-- The model of a setting is its game with its labels and owners.
abbrev pub model_of : Setting → Model
model_of setting = record { game = setting.game.now; labels = setting.labels.now; owners = setting.owners.now }

-- Two lists of marks say where a formula surely holds, and where it possibly does.
abbrev pub seen : KnownSets → Known
seen sets = record {
  sure = (λ s. slice_index_or sets.sure.items s false);
  possible = (λ s. slice_index_or sets.possible.items s false);
}

-- Both say the same of each of this many states.
pub record AreAlike (n : ℕ) (one other : Known) : Type 0 where
  pub sure : (s : ℕ) → s < n → one.sure s ≡ other.sure s
  pub possible : (s : ℕ) → s < n → one.possible s ≡ other.possible s

-- This is the other question if there is one, and else the first one.
abbrev pub high_or : Query → Option Query → Query
high_or low None = low
high_or low (Some high) = high

-- These are the bounds of an answer.
abbrev pub band_of : Nested → Band
band_of nested = record { lower = nested.lower.items; upper = nested.upper.items }

-- These are the bounds of a formula, state by state.
abbrev pub band_in : Bounds → Band
band_in bounds = record { lower = bounds.lower.items; upper = bounds.upper.items }

-- A band has a lower and an upper bound for each of this many states, and none is above the unit.
pub record IsBand (n : ℕ) (band : Band) : Type 0 where
  pub lowers : length band.lower ≡ n
  pub uppers : length band.upper ≡ n
  pub lower_units : All (λ v. v ≤ unit) band.lower
  pub upper_units : All (λ v. v ≤ unit) band.upper

-- This is known of a state formula from bounds of the formulas inside.
pub record IsJudged (m : Model) (way : Way) (x : State) (judged : Judged) : Type 0 where
  pub bands : Bands x
  pub found : AreFound m way x bands
  pub many : length judged.sets.sure.items ≡ states m
  pub alike : AreAlike (states m) (known m.labels x bands) (seen judged.sets)
  pub inner_are : judged.inner ≡ formulas_in x
  pub undecided_are : judged.undecided ≡ undecided_in x bands (states m)
