-- This module defines the answer to a formula with formulas inside.
use Rattle.std.specs.Prelude.{◌≡◌, ◌<◌, ◌+◌, ℕ, List, All}
use Rattle.game_model.specs.Game.{IsGame}
use Rattle.formula_reader.specs.Formula.{Tree, formulas_inside}
use Rattle.verdicts.specs.declared.report.How.{How}
use Rattle.verdicts.specs.declared.verdict.Verdict.TheVariants.{Undecided}
use Rattle.formula_sets.specs.Posing.{Model}
use Rattle.formula_truth.specs.declared.way.Way.{Way}
use Rattle.formula_truth.specs.declared.way.Way.TheVariants.{ByRounds}
use Rattle.formula_truth.specs.Truth.{Valuation, IsTruth, states, holds}
use Rattle.formula_truth.specs.ThreeValued.{Band, Bands, known, exactly, verdict_at, undecided_in}
use Rattle.formula_truth.specs.InnerRuns.{AreFound, AreFoundBy}
use Rattle.formula_truth.specs.RoundBounds.{AreCoarse, AreOpenWithin, AreWithin, IsCoarse}
use Rattle.nested_truth.specs.Open.{IsOpenBy}
use Rattle.formula_truth.specs.Sound.{IsAround, AreSoundBy, IsRightOf}

-- A number of rounds promises this of the bounds of a formula and of those inside its sides.
pub record RoundsPromise (m : Model) (f : Tree) (starts : List ℕ) (asked : ℕ) (left : Bands f.left)
    (right : Bands f.right) (truth : Valuation) (band : Band) (undecided : ℕ) : Type 0 where
  -- A formula inside is undecided only where it is undecided by the coarse bounds of as many rounded steps with no run.
  -- The same is true of the formula at the states where its run looks. If it asks for a value, its bounds there lie
  -- within coarse ones.
  pub left_within : (coarse : Bands f.left) → AreCoarse m asked f.left coarse
      → AreOpenWithin (states m) f.left left coarse
  pub right_within : (coarse : Bands f.right) → AreCoarse m asked f.right coarse
      → AreOpenWithin (states m) f.right right coarse
  pub within : (coarse_left : Bands f.left) (coarse_right : Bands f.right) (coarse : Band)
      → IsCoarse m f asked coarse_left coarse_right coarse → AreWithin f.bound starts band coarse
  -- If nothing inside is left undecided, the formula is undecided at a state where its run looks only if its threshold
  -- is left open there.
  pub left_open : undecided ≡ 0 → All (λ s. verdict_at f.bound band s ≡ Undecided
      → IsOpenBy f.kind m f (holds m.labels truth f.left) (holds m.labels truth f.right) asked band s) starts

-- The bounds of the formula are found from those of the formulas inside. `inner` is the number of formulas inside, and
-- `undecided` the number of pairs of such a formula and a state that are left undecided. At the states of `starts` the
-- outermost run of rounds looks whether its threshold is settled.
pub record IsNested (m : Model) (f : Tree) (starts : List ℕ) (way : Way) (band : Band) (how : How)
    (inner undecided : ℕ) : Type 0 where
  pub is_game : IsGame m.game
  pub left : Bands f.left
  pub right : Bands f.right
  pub left_found : AreFound m way f.left left
  pub right_found : AreFound m way f.right right
  pub found : AreFoundBy f.kind m f (known m.labels f.left left) (known m.labels f.right right) starts way band how
  pub inner_are : inner ≡ formulas_inside f
  pub undecided_are : undecided ≡ undecided_in f.left left (states m) + undecided_in f.right right (states m)
  -- This is the truth of every formula at each state.
  pub truth : Valuation
  pub is_truth : IsTruth m truth
  -- A side holds wherever it surely holds, and it possibly holds wherever it holds.
  pub left_around : IsAround m (holds m.labels truth f.left) (known m.labels f.left left)
  pub right_around : IsAround m (holds m.labels truth f.right) (known m.labels f.right right)
  -- The bounds are sound, and a verdict of yes or no is right.
  pub sound : AreSoundBy f.kind m f (holds m.labels truth f.left) (holds m.labels truth f.right) band
  pub right_of : (s : ℕ) → s < states m → IsRightOf (verdict_at f.bound band s) (truth f s)
  -- If nothing inside is left undecided, the bounds are those of one answer to the exact question.
  pub exact : undecided ≡ 0 → AreFoundBy f.kind m f (exactly (holds m.labels truth f.left))
      (exactly (holds m.labels truth f.right)) starts way band how
  -- If rounds are made, this is promised as well.
  pub rounds : (asked : ℕ) → way ≡ ByRounds asked → RoundsPromise m f starts asked left right truth band undecided
