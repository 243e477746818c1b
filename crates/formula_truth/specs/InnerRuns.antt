-- This module defines the bounds that are found for a formula whose sides are known in part: lower ones for the
-- question of the sure states, and upper ones for that of the possible states.
use Rattle.std.specs.Prelude.{◌≡◌, ℕ, Bool, List, if◌then◌else◌}
use Rattle.std.specs.List.{range_with_len}
use Rattle.game_model.specs.Limits.{unit}
use Rattle.game_model.specs.Query.{Query}
use Rattle.game_model.specs.Rounded.{opening}
use Rattle.game_model.specs.Dual.{IsZeroSet}
use Rattle.formula_reader.specs.declared.formula.Bound.{Bound}
use Rattle.formula_reader.specs.declared.formula.PathKind.{PathKind}
use Rattle.formula_reader.specs.declared.formula.PathKind.TheVariants.{Until, Within, Next, Always}
use Rattle.rpatl_syntax.specs.Dual.{dual_bound, dual_of}
use Rattle.formula_reader.specs.Formula.{State, True, False, Label, Not, And, Or, Implies, Inner, Tree}
use Rattle.formula_sets.specs.Posing.{Model, next_question_of}
use Rattle.bounded_rounds.specs.Steps.{IsSweep}
use Rattle.bracket_engine.specs.declared.bounds.Bracket.{Bracket}
use Rattle.bracket_engine.specs.Bracket.{complements_of}
use Rattle.bracket_engine.specs.BracketOfRun.{IsBracketOfRun}
use Rattle.verdicts.specs.declared.report.How.{How}
use Rattle.verdicts.specs.declared.report.How.TheVariants.{Rounds, Steps, Solved}
use Rattle.plan_text.specs.declared.plan.Plan.{Plan}
use Rattle.solved_plans.specs.Plans.{IsSolvedPlan}
use Rattle.formula_truth.specs.declared.way.Way.{Way}
use Rattle.formula_truth.specs.declared.way.Way.TheVariants.{ByRounds, BySolver}
use Rattle.formula_truth.specs.Truth.{states, question_by, everywhere}
use Rattle.formula_truth.specs.ThreeValued.{Band, Bands, Known, known, exactly, negated}

-- This many rounds are asked for. With a solver none are asked for, though it makes some if its bounds are far apart.
abbrev pub rounds_of : Way → ℕ
rounds_of (ByRounds asked) = asked
rounds_of BySolver = 0

-- The bounds are a bracket of a question after at most this many rounds, over its zero set.
pub record IsRun (q : Query) (bound : Bound) (starts : List ℕ) (asked : ℕ) (lower upper : List ℕ)
    (how : How) : Type 0 where
  pub zero : List Bool
  pub is_zero : IsZeroSet q zero
  pub found : Bracket
  pub is_found : IsBracketOfRun q zero bound starts asked found
  pub lower_is : lower ≡ found.plan.lower.items
  pub upper_is : upper ≡ found.plan.upper.items
  pub rounds : how ≡ Rounds found.rounds

-- The bounds are those of a plan of a question that passes the checks of an audit and is sound. The lower bound is 1
-- exactly at the almost-sure states, and the upper bound is 0 exactly at the states of value 0.
pub record IsPlanned (q : Query) (lower upper : List ℕ) (how : How) : Type 0 where
  pub plan : Plan
  pub is_plan : IsSolvedPlan q plan
  pub lower_is : lower ≡ plan.lower.items
  pub upper_is : upper ≡ plan.upper.items
  pub solved : how ≡ Solved

-- A question is answered by these bounds in this way. A plan does not depend on the bound and the states of `starts`.
abbrev pub IsAnsweredBy : Way → Query → Bound → List ℕ → List ℕ → List ℕ → How → Type 0
IsAnsweredBy (ByRounds asked) q bound starts lower upper how = IsRun q bound starts asked lower upper how
IsAnsweredBy BySolver q bound starts lower upper how = IsPlanned q lower upper how

-- The lower bounds are those of an answer to one question, and the upper ones those of an answer to another. If the
-- questions are the same, they are the bounds of one answer.
pub record AreAnswered (low high : Query) (bound : Bound) (starts : List ℕ) (way : Way) (band : Band)
    (how : How) : Type 0 where
  pub low_upper : List ℕ
  pub low_answer : IsAnsweredBy way low bound starts band.lower low_upper how
  pub high_lower : List ℕ
  pub high_how : How
  pub high_answer : IsAnsweredBy way high bound starts high_lower band.upper high_how
  pub one : low ≡ high → low_upper ≡ band.upper

-- The lower bounds are the values of this many down steps of one table for one question. The upper ones are the values
-- of as many up steps of the other table for the other question.
pub record AreSwept (low high : Query) (low_opening high_opening : ℕ → ℕ) (steps : ℕ) (band : Band)
    (how : How) : Type 0 where
  pub low_upper : List ℕ
  pub low_swept : IsSweep low low_opening steps band.lower low_upper
  pub high_lower : List ℕ
  pub high_swept : IsSweep high high_opening steps high_lower band.upper
  pub steps_are : how ≡ Steps steps

-- In this question a side holds only where it surely does.
abbrev pub pessimistic : Model → Tree → Known → Known → Query
pessimistic m f left right = question_by m f left.sure right.sure

-- In this question a side holds wherever it possibly does.
abbrev pub optimistic : Model → Tree → Known → Known → Query
optimistic m f left right = question_by m f left.possible right.possible

-- The entry is the unit at these states, and else 0.
abbrev pub units_at : (ℕ → Bool) → ℕ → ℕ
units_at holds s = if holds s then unit else 0

-- These are 1 less the bounds of the dual.
abbrev pub mirrored : Band → Band
mirrored band = record { lower = complements_of band.upper; upper = complements_of band.lower }

-- These are the bounds of a formula with a path of this kind. At the states of `starts` a run looks whether its
-- threshold is settled.
abbrev pub AreFoundBy : PathKind → Model → Tree → Known → Known → List ℕ → Way → Band → How → Type 0
AreFoundBy Until m f left right starts way band how =
    AreAnswered (pessimistic m f left right) (optimistic m f left right) f.bound starts way band how
AreFoundBy (Within k) m f left right starts way band how =
    AreSwept (pessimistic m f left right) (optimistic m f left right) (opening (pessimistic m f left right))
    (opening (optimistic m f left right)) k band how
AreFoundBy Next m f left right starts way band how =
    AreSwept (next_question_of m.game m.owners f) (next_question_of m.game m.owners f) (units_at right.sure)
    (units_at right.possible) 1 band how
AreFoundBy Always m f left right starts way band how =
    (other : Band) × AreAnswered (pessimistic m (dual_of f) (exactly everywhere) (negated right))
    (optimistic m (dual_of f) (exactly everywhere) (negated right)) (dual_bound f.bound) starts way other how
    × (band ≡ mirrored other)

-- Each formula inside has bounds found in this way, and a run of its rounds looks at every state.
abbrev pub AreFound : Model → Way → (x : State) → Bands x → Type 0
AreFound m way True b = Unit {0}
AreFound m way False b = Unit {0}
AreFound m way (Label name) b = Unit {0}
AreFound m way (Not x) b = AreFound m way x b
AreFound m way (And x y) b = AreFound m way x b.0 × AreFound m way y b.1
AreFound m way (Or x y) b = AreFound m way x b.0 × AreFound m way y b.1
AreFound m way (Implies x y) b = AreFound m way x b.0 × AreFound m way y b.1
AreFound m way (Inner team bound kind left right) b =
    ((how : How) × AreFoundBy kind m (record {
      coalition = team;
      bound = bound;
      kind = kind;
      left = left;
      right = right;
    }) (known m.labels left b.1) (known m.labels right b.2)
    (range_with_len 0 (states m)) way b.0 how)
    × AreFound m way left b.1 × AreFound m way right b.2
