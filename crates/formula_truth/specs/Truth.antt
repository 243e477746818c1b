-- This module says when formulas are true at the states of a model. A formula inside a state formula holds where it is
-- true.
use Rattle.std.specs.Prelude.{◌≡◌, ◌<◌, ◌^◌, ◌↔◌, ◌&&◌, ◌||◌, ℕ, Bool, true, false, not, length}
use Rattle.game_model.specs.Query.{Query}
use Rattle.game_model.specs.Values.{denominator, numerator}
use Rattle.label_lines.specs.Labels.{Labelling, holds_at}
use Rattle.formula_reader.specs.declared.formula.PathKind.{PathKind}
use Rattle.formula_reader.specs.declared.formula.PathKind.TheVariants.{Until, Within, Next, Always}
use Rattle.rpatl_syntax.specs.Dual.{IsMetBy, dual_bound, dual_of}
use Rattle.formula_reader.specs.Formula.{State, True, False, Label, Not, And, Or, Implies, Inner, Tree}
use Rattle.formula_sets.specs.Posing.{Model, at_states, question_with, next_question_of}
use Rattle.bounded_rounds.specs.Exact.{next_numerator}
use Rattle.verdicts.specs.Truth.{IsTrueOf}

-- This is the number of states of the game.
abbrev pub states : Model → ℕ
states m = length m.game

-- A valuation says at which states each formula is true.
abbrev pub Valuation : Type 0
Valuation = Tree → ℕ → Bool

-- This says whether a state formula holds at a state, when formulas inside hold as the valuation says.
abbrev pub holds : Labelling → Valuation → State → ℕ → Bool
holds l valuation True s = true
holds l valuation False s = false
holds l valuation (Label name) s = holds_at l name s
holds l valuation (Not x) s = not (holds l valuation x s)
holds l valuation (And x y) s = holds l valuation x s && holds l valuation y s
holds l valuation (Or x y) s = holds l valuation x s || holds l valuation y s
holds l valuation (Implies x y) s = not (holds l valuation x s) || holds l valuation y s
holds l valuation (Inner team bound kind left right) s =
    valuation (record { coalition = team; bound = bound; kind = kind; left = left; right = right }) s

-- This is the question of a formula whose sides hold at these states.
abbrev pub question_by : Model → Tree → (ℕ → Bool) → (ℕ → Bool) → Query
question_by m f left right = question_with m.game m.owners f (at_states right (states m))
    (at_states (λ s. not (right s) && not (left s)) (states m))

-- A formula holds at every state.
abbrev pub everywhere : ℕ → Bool
everywhere s = true

-- `G y` is judged by this question, which is that of `F !y`, when y holds at these states.
abbrev pub dual_question_by : Model → Tree → (ℕ → Bool) → Query
dual_question_by m f right = question_by m (dual_of f) everywhere (λ s. not (right s))

-- The formula, with a path of this kind whose sides hold at these states, is true at a state.
abbrev pub IsTrueBy : PathKind → Model → Tree → (ℕ → Bool) → (ℕ → Bool) → ℕ → Type 0
IsTrueBy Until m f left right s = IsTrueOf (question_by m f left right) f.bound s
IsTrueBy (Within k) m f left right s = IsMetBy f.bound (numerator (question_by m f left right) k s)
    (denominator m.game ^ k)
IsTrueBy Next m f left right s = IsMetBy f.bound (next_numerator (next_question_of m.game m.owners f) right s)
    (denominator m.game)
IsTrueBy Always m f left right s = IsTrueOf (dual_question_by m f right) (dual_bound f.bound) s

-- The formula is true at a state when formulas inside hold as the valuation says.
abbrev pub IsTrue : Model → Valuation → Tree → ℕ → Type 0
IsTrue m valuation f s = IsTrueBy f.kind m f (holds m.labels valuation f.left) (holds m.labels valuation f.right) s

-- The valuation is the truth if it says that each formula is true at exactly the states where it is true. Each model
-- has one.
abbrev pub IsTruth : Model → Valuation → Type 0
IsTruth m valuation = (f : Tree) (s : ℕ) → s < states m → (valuation f s ≡ true) ↔ IsTrue m valuation f s
