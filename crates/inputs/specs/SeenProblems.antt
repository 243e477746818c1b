-- This module says what contracts see of a problem that was posed.
use Rattle.std.specs.Prelude.{◌≡◌, Some, None, Ok}
use Rattle.formula_reader.specs.declared.formula.PathKind.{PathKind}
use Rattle.formula_reader.specs.declared.formula.PathKind.TheVariants as kind_of
use Rattle.rpatl_syntax.specs.Dual.{dual_of}
use Rattle.formula_reader.specs.Formula.{Tree, tree_of}
use Rattle.formula_sets.specs.Posing.{initial_said}
use Rattle.formula_sets.specs.Seen.{posing_of, next_posing_of}
use Rattle.inputs.specs.declared.model.Loaded.{Loaded}
use Rattle.inputs.specs.declared.problem.Problem.{Problem as Seen}
use Rattle.inputs.specs.declared.problem.Problem.TheVariants.{Reach, Within, Next, Nested}
use Rattle.inputs.specs.Problems.{Problem, OfReach, OfWithin, OfNext, OfNested, IsReaching}

-- Contracts see a posed problem as this one.
abbrev pub problem_of : Seen → Problem
problem_of (Reach posed dual) = OfReach (posing_of posed)
problem_of (Within posed steps) = OfWithin steps (posing_of posed)
problem_of (Next posed) = OfNext (next_posing_of posed)
problem_of (Nested loaded initial) = OfNested (record {
  game = loaded.now.game;
  labels = loaded.now.labels;
  owners = loaded.now.owners;
}) initial.items

-- The question of `G` comes with its dual, and that of `F` and `U` with none.
abbrev pub HasDual : Tree → Seen → Type 0
HasDual f (Reach posed None) = f.kind ≡ kind_of.Until
HasDual f (Reach posed (Some dual)) = (f.kind ≡ kind_of.Always) × (tree_of dual ≡ dual_of f)
HasDual f (Within posed steps) = Unit {0}
HasDual f (Next posed) = Unit {0}
HasDual f (Nested loaded initial) = Unit {0}

-- A problem is of paths of this kind, unless its formula has others inside.
abbrev pub IsOfKind : PathKind → Seen → Type 0
IsOfKind kind (Reach posed dual) = IsReaching kind
IsOfKind kind (Within posed steps) = kind ≡ kind_of.Within steps
IsOfKind kind (Next posed) = kind ≡ kind_of.Next
IsOfKind kind (Nested loaded initial) = Unit {0}

-- Goals are to be reached without a bound on the steps, and for `G` those of its dual.
abbrev pub IsUnbounded : Seen → Type 0
IsUnbounded (Reach posed dual) = Unit {0}
IsUnbounded (Within posed steps) = ⊥
IsUnbounded (Next posed) = ⊥
IsUnbounded (Nested loaded initial) = ⊥

-- The formula has others inside.
abbrev pub HasInside : Seen → Type 0
HasInside (Reach posed dual) = ⊥
HasInside (Within posed steps) = ⊥
HasInside (Next posed) = ⊥
HasInside (Nested loaded initial) = Unit {0}

-- The problem of a formula with others inside has what was loaded, and its initial states.
abbrev pub IsOfLoaded : Loaded → Seen → Type 0
IsOfLoaded other (Reach posed dual) = Unit {0}
IsOfLoaded other (Within posed steps) = Unit {0}
IsOfLoaded other (Next posed) = Unit {0}
IsOfLoaded other (Nested loaded initial) = (loaded.now ≡ other)
    × (initial_said other.labels other.owners (tree_of other.formula) ≡ Ok initial.items)
