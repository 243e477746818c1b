-- There are coarse bounds, of every formula inside and of the formula.
use Rattle.std.proofs.Common.{◌-◌, ℕ, Bool, List, refl}
use Rattle.game_model.specs.Game.{IsGame}
use Rattle.game_model.specs.Limits.{unit}
use Rattle.game_model.specs.Query.{Query, IsQuery}
use Rattle.game_model.specs.Query as query
use Rattle.game_model.specs.Rounded.{down_steps, opening}
use Rattle.game_model.specs.Dual.{IsZeroSet, swapped}
use Rattle.formula_reader.specs.declared.formula.PathKind.{PathKind}
use Rattle.formula_reader.specs.declared.formula.PathKind.TheVariants.{Until, Within, Next, Always}
use Rattle.rpatl_syntax.specs.Dual.{dual_of}
use Rattle.formula_reader.specs.Formula.{State, True, False, Label, Not, And, Or, Implies, Inner, Tree}
use Rattle.formula_sets.specs.Posing.{Model, at_states, next_question_of}
use Rattle.formula_sets.proofs.Asking.{at_states-at, length-at_states}
use Rattle.bounded_rounds.specs.Steps.{IsSweep, down_from, up_from}
use Rattle.verdicts.specs.declared.report.How.TheVariants.{Steps}
use Rattle.determinacy.proofs.Zeros.{questions-have_zero_sets}
use Rattle.formula_truth.specs.Truth.{states, everywhere}
use Rattle.formula_truth.specs.ThreeValued.{Band, Bands, Known, known, exactly, negated}
use Rattle.formula_truth.specs.InnerRuns.{AreSwept, pessimistic, optimistic, units_at, mirrored}
use Rattle.formula_truth.specs.RoundBounds.{AreStepped, AreCoarseBy, AreCoarse, IsCoarse}
use Rattle.formula_truth.proofs.Posed.{is_query}

-- 1. A table with an entry for each state.

stepped-of : (low high : Query) (n asked : ℕ) (zero : List Bool) → IsZeroSet high zero
    → AreStepped low high n asked (record {
      lower = at_states (down_steps low asked) n;
      upper = at_states (λ s. unit - down_steps (swapped high zero) asked s) n;
    })
stepped-of low high n asked zero is = record {
  zero = zero;
  is_zero = is;
  lowers = length-at_states (down_steps low asked) n;
  uppers = length-at_states (λ s. unit - down_steps (swapped high zero) asked s) n;
  lower = λ s inside. at_states-at (down_steps low asked) n s 0 inside;
  upper = λ s inside. at_states-at (λ t. unit - down_steps (swapped high zero) asked t) n s 0 inside;
}

stepped : (low high : Query) (n asked : ℕ) → IsQuery high → (band : Band) × AreStepped low high n asked band
stepped low high n asked posed =
    let zero = questions-have_zero_sets high posed in (
      record {
        lower = at_states (down_steps low asked) n;
        upper = at_states (λ s. unit - down_steps (swapped high zero.0) asked s) n;
      },
      stepped-of low high n asked zero.0 zero.1,
    )

sweep : (q : Query) (opening : ℕ → ℕ) (steps : ℕ) → IsSweep q opening steps
    (at_states (down_from q opening steps) (query.states q)) (at_states (up_from q opening steps) (query.states q))
sweep q opening steps = record {
  lowers = length-at_states (down_from q opening steps) (query.states q);
  uppers = length-at_states (up_from q opening steps) (query.states q);
  down = λ s inside. at_states-at (down_from q opening steps) (query.states q) s 0 inside;
  up = λ s inside. at_states-at (up_from q opening steps) (query.states q) s 0 inside;
}

swept : (low high : Query) (low_opening high_opening : ℕ → ℕ) (steps : ℕ)
    → AreSwept low high low_opening high_opening steps (record {
      lower = at_states (down_from low low_opening steps) (query.states low);
      upper = at_states (up_from high high_opening steps) (query.states high);
    }) (Steps steps)
swept low high low_opening high_opening steps = record {
  low_upper = at_states (up_from low low_opening steps) (query.states low);
  low_swept = sweep low low_opening steps;
  high_lower = at_states (down_from high high_opening steps) (query.states high);
  high_swept = sweep high high_opening steps;
  steps_are = refl;
}

-- 2. Of every kind of path.

module _ (m : Model) (game : IsGame m.game) (asked : ℕ) where
  coarse-by : (kind : PathKind) (f : Tree) (left right : Known)
      → (band : Band) × AreCoarseBy kind m f left right asked band
  coarse-by Until f left right = stepped (pessimistic m f left right) (optimistic m f left right) (states m) asked
      (is_query m f left.possible right.possible game)
  coarse-by (Within k) f left right =
      let low = pessimistic m f left right in
      let high = optimistic m f left right in (
        record {
          lower = at_states (down_from low (opening low) k) (states m);
          upper = at_states (up_from high (opening high) k) (states m);
        },
        (Steps k, swept low high (opening low) (opening high) k),
      )
  coarse-by Next f left right =
      let q = next_question_of m.game m.owners f in (
        record {
          lower = at_states (down_from q (units_at right.sure) 1) (states m);
          upper = at_states (up_from q (units_at right.possible) 1) (states m);
        },
        (Steps 1, swept q q (units_at right.sure) (units_at right.possible) 1),
      )
  coarse-by Always f left right =
      let other = stepped (pessimistic m (dual_of f) (exactly everywhere) (negated right))
      (optimistic m (dual_of f) (exactly everywhere) (negated right)) (states m) asked
      (is_query m (dual_of f) everywhere (negated right).possible game) in
      (mirrored other.0, (other.0, other.1, refl))

  -- 3. Of every state formula, and of the outermost one.

  pub coarse-inside : (x : State) → (bands : Bands x) × AreCoarse m asked x bands
  coarse-inside True = (tt, tt)
  coarse-inside False = (tt, tt)
  coarse-inside (Label name) = (tt, tt)
  coarse-inside (Not x) = coarse-inside x
  coarse-inside (And x y) = let a = coarse-inside x in let b = coarse-inside y in ((a.0, b.0), (a.1, b.1))
  coarse-inside (Or x y) = let a = coarse-inside x in let b = coarse-inside y in ((a.0, b.0), (a.1, b.1))
  coarse-inside (Implies x y) = let a = coarse-inside x in let b = coarse-inside y in ((a.0, b.0), (a.1, b.1))
  coarse-inside (Inner team bound kind left right) =
      let l = coarse-inside left in
      let r = coarse-inside right in
      let at = coarse-by kind (record { coalition = team; bound = bound; kind = kind; left = left; right = right })
      (known m.labels left l.0) (known m.labels right r.0) in
      ((at.0, l.0, r.0), (at.1, l.1, r.1))

  pub coarse-bounds : (f : Tree)
      → (left : Bands f.left) × (right : Bands f.right) × (band : Band) × IsCoarse m f asked left right band
  coarse-bounds f =
      let l = coarse-inside f.left in
      let r = coarse-inside f.right in
      let at = coarse-by f.kind f (known m.labels f.left l.0) (known m.labels f.right r.0) in
      (l.0, r.0, at.0, record { left_coarse = l.1; right_coarse = r.1; coarse = at.1 })
