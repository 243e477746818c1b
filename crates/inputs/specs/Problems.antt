-- This module says what a formula asks of a game, and which formulas a command takes.
use Rattle.std.specs.Prelude.{◌≡◌, ◌&&◌, ℕ, Bool, true, false, List, length, Option, Some, None, if◌then◌else◌}
use Rattle.game_model.specs.Game.{Distribution}
use Rattle.game_model.specs.Query.{states}
use Rattle.label_lines.specs.Labels.{Labelling}
use Rattle.label_lines.specs.Owners.{Ownership}
use Rattle.formula_reader.specs.declared.formula.PathKind.{PathKind}
use Rattle.formula_reader.specs.declared.formula.PathKind.TheVariants.{Until, Within, Next, Always}
use Rattle.rpatl_syntax.specs.Dual.{answered}
use Rattle.formula_reader.specs.Formula.{Tree, is_flat, IsFlat}
use Rattle.formula_sets.specs.Posing.{Model, Posing, NextPosing, BeginsAt, Poses, PosesNext}
use Rattle.inputs.specs.declared.problem.Paths.{Paths}
use Rattle.inputs.specs.declared.problem.Paths.TheVariants.{Any, Unbounded, Reaching}

-- 1. Problems.

-- A formula asks to reach a goal (for `G`, one of the dual), or to do so within a number of steps or in the next one. A
-- formula with others inside asks about the game with labels, owners and initial states.
pub data Problem : Type 0 where
  OfReach : (posing : Posing) → Problem
  OfWithin : (steps : ℕ) → (posing : Posing) → Problem
  OfNext : (posing : NextPosing) → Problem
  OfNested : (model : Model) → (initial : List ℕ) → Problem

-- These are the initial states of a problem.
abbrev pub initial_of : Problem → List ℕ
initial_of (OfReach p) = p.initial
initial_of (OfWithin k p) = p.initial
initial_of (OfNext p) = p.initial
initial_of (OfNested m initial) = initial

-- This is the number of states of the game.
abbrev pub states_of : Problem → ℕ
states_of (OfReach p) = states p.question
states_of (OfWithin k p) = states p.question
states_of (OfNext p) = states p.question
states_of (OfNested m initial) = length m.game

-- This is the question whose goals are reached without a bound on the steps. Other problems have none.
abbrev pub posing_in : Problem → Option Posing
posing_in (OfReach p) = Some p
posing_in (OfWithin k p) = None
posing_in (OfNext p) = None
posing_in (OfNested m initial) = None

-- Paths of this kind come to a goal, and for `G` to one of the dual, without a bound on the steps.
abbrev pub IsReaching : PathKind → Type 0
IsReaching Until = Unit {0}
IsReaching (Within k) = ⊥
IsReaching Next = ⊥
IsReaching Always = Unit {0}

-- The formula poses this problem of a game whose states have these labels and owners.
abbrev pub PosesProblem : List (List Distribution) → Labelling → Ownership → Tree → Problem → Type 0
PosesProblem game l o f (OfReach p) = IsFlat f × IsReaching f.kind × Poses game l o (answered f) p
PosesProblem game l o f (OfWithin k p) = IsFlat f × (f.kind ≡ Within k) × Poses game l o f p
PosesProblem game l o f (OfNext p) = IsFlat f × (f.kind ≡ Next) × PosesNext game l o f p
PosesProblem game l o f (OfNested m initial) = (¬ IsFlat f) × (m ≡ record { game = game; labels = l; owners = o })
    × BeginsAt l o f initial

-- 2. Which formulas a command takes.

-- The command takes a formula with such a path and none inside.
abbrev pub takes : Paths → PathKind → Bool
takes Any kind = true
takes Unbounded Until = true
takes Unbounded (Within k) = false
takes Unbounded Next = false
takes Unbounded Always = true
takes Reaching Until = true
takes Reaching (Within k) = false
takes Reaching Next = false
takes Reaching Always = false

-- The command takes a formula with others inside.
abbrev pub takes_nested : Paths → Bool
takes_nested Any = true
takes_nested Unbounded = false
takes_nested Reaching = false

-- The command takes the formula.
abbrev pub takes_formula : Paths → Tree → Bool
takes_formula paths f = if is_flat f.left && is_flat f.right then takes paths f.kind else takes_nested paths
