-- These definitions say what is reported to words, by the command that they denote and the paths of its formula.
use Rattle.std.specs.Prelude.{◌≡◌, ◌≤◌, ℕ, Bool, List, Option, Some}
use Rattle.text_lines.specs.Limits.{most_bytes}
use Rattle.game_outside.specs.Outside.{Holding}
use Rattle.game_model.specs.Query.{states}
use Rattle.formula_reader.specs.Formula.{Tree}
use Rattle.formula_reader.specs.Rules.{DenotesFormula}
use Rattle.formula_sets.specs.Posing.{Model, Posing, NextPosing}
use Rattle.command_words.specs.Words.{Asked, Check, Audit, Solve, Make, Command, OfCheck, OfAudit, OfSolve, OfMake}
use Rattle.command_words.specs.Words.{OfSure, AreCommand}
use Rattle.inputs.specs.declared.problem.Paths.{Paths}
use Rattle.inputs.specs.declared.problem.Paths.TheVariants.{Unbounded, Reaching}
use Rattle.inputs.specs.Problems.{Problem, OfReach, OfWithin, OfNext, OfNested, posing_in}
use Rattle.inputs.specs.Sources.{SourceWith}
use Rattle.inputs.specs.Asks.{GivenTextWith}
use Rattle.inputs.specs.Questions.{PosesIt, GivesValues}
use Rattle.output.specs.declared.status.Status.{Status}
use Rattle.formula_truth.specs.declared.way.Way.TheVariants.{ByRounds, BySolver}
use Rattle.reports.specs.Reports.{IsBracketReport}
use Rattle.reports.specs.Sweeps.{IsWithinReport, IsNextReport}
use Rattle.reports.specs.Nested.{IsNestedReport}
use Rattle.reports.specs.Audits.{IsAudit}
use Rattle.reports.specs.Solved.{IsSolved}
use Rattle.reports.specs.Made.{IsMade}
use Rattle.reports.specs.Sure.{IsSure}
use Rattle.stogame_app.specs.Status.{sure_status}
use Rattle.stogame_app.specs.Commands.{check_paths, solve_paths}

-- The words denote this command. What it asks poses this problem, by this formula, with some texts; if the holding is
-- known, these are the texts that are held. At most `most_bytes` bytes were taken from the last text.
pub record WordsPose (words : List (List ℕ)) (holding : Option Holding) (taken : ℕ) (command : Command) (asked : Asked)
    (paths : Paths) (problem : Problem) (formula : Tree) : Type 0 where
  pub denoted : AreCommand words command
  pub posed : PosesIt holding asked paths problem
  pub spelled : DenotesFormula asked.formula formula
  pub short : taken ≤ most_bytes

-- The words denote this `check`, which poses this problem.
abbrev pub Checks : List (List ℕ) → Option Holding → ℕ → Check → Problem → Tree → Type 0
Checks words holding taken check problem f =
    WordsPose words holding taken (OfCheck check) check.asked (check_paths check) problem f

-- The words denote this `solve`, which poses this problem.
abbrev pub Solves : List (List ℕ) → Option Holding → ℕ → Solve → Problem → Tree → Type 0
Solves words holding taken solve problem f =
    WordsPose words holding taken (OfSolve solve) solve.asked (solve_paths solve) problem f

-- The text and the status are the report of the command that the words denote.
pub data IsReportOfWords (words : List (List ℕ)) (holding : Option Holding) (taken : ℕ) (text : List ℕ)
    (status : Status) : Type 0 where
  -- `check` of `F`, `U` and, by its dual, `G` reports bounds of the values of a question.
  of_reach : (check : Check) (p : Posing) (f : Tree) → Checks words holding taken check (OfReach p) f
      → IsBracketReport p.question p.initial f check text status → IsReportOfWords words holding taken text status
  -- `check` of `F<=k` and `U<=k` reports bounds of the values of exactly k steps.
  of_within : (check : Check) (steps : ℕ) (p : Posing) (f : Tree)
      → Checks words holding taken check (OfWithin steps p) f
      → IsWithinReport p.question steps p.initial f text status → IsReportOfWords words holding taken text status
  -- `check` of `X` reports bounds of the values of the next step.
  of_next : (check : Check) (p : NextPosing) (f : Tree) → Checks words holding taken check (OfNext p) f
      → IsNextReport p.question p.opening p.initial f text status → IsReportOfWords words holding taken text status
  -- `check` of a formula with others inside reports bounds that are sound for the exact question.
  of_nested : (check : Check) (model : Model) (initial : List ℕ) (f : Tree)
      → Checks words holding taken check (OfNested model initial) f
      → IsNestedReport model initial f (ByRounds check.rounds) text status
      → IsReportOfWords words holding taken text status
  -- `audit` reports the numbers of a certificate that the question accepts, from the text under its name.
  of_audit : (audit : Audit) (problem : Problem) (p : Posing) (f : Tree)
      → WordsPose words holding taken (OfAudit audit) audit.asked Unbounded problem f → posing_in problem ≡ Some p
      → SourceWith holding audit.certificate
      (λ source. GivenTextWith source (λ bytes. IsAudit p.question p.initial f bytes text status))
      → IsReportOfWords words holding taken text status
  -- `solve` of `F`, `U` and `G` reports a plan that the tables of a solver led to. If a file of values to begin with is
  -- named, its text has no fault.
  of_solve : (solve : Solve) (p : Posing) (f : Tree) → Solves words holding taken solve (OfReach p) f
      → GivesValues holding solve.values (states p.question) → IsSolved p.question p.initial f solve.plan text status
      → IsReportOfWords words holding taken text status
  -- `solve` of `F<=k`, `U<=k` and `X` reports what `check` reports.
  of_solve_within : (solve : Solve) (steps : ℕ) (p : Posing) (f : Tree)
      → Solves words holding taken solve (OfWithin steps p) f
      → IsWithinReport p.question steps p.initial f text status → IsReportOfWords words holding taken text status
  of_solve_next : (solve : Solve) (p : NextPosing) (f : Tree) → Solves words holding taken solve (OfNext p) f
      → IsNextReport p.question p.opening p.initial f text status → IsReportOfWords words holding taken text status
  -- `solve` of a formula with others inside reports bounds that are sound for the exact question. They come from plans
  -- in place of rounds.
  of_solve_nested : (solve : Solve) (model : Model) (initial : List ℕ) (f : Tree)
      → Solves words holding taken solve (OfNested model initial) f
      → IsNestedReport model initial f BySolver text status → IsReportOfWords words holding taken text status
  -- `sure` reports the states that are almost sure of the question.
  of_sure : (asked : Asked) (problem : Problem) (p : Posing) (f : Tree) (all : Bool)
      → WordsPose words holding taken (OfSure asked) asked Reaching problem f → posing_in problem ≡ Some p
      → IsSure p.question p.initial text all → status ≡ sure_status all
      → IsReportOfWords words holding taken text status
  -- `make` reports one line about the bracket of the game that a seed draws.
  of_make : (make : Make) → AreCommand words (OfMake make) → IsMade make.seed make.states make.rounds text status
      → IsReportOfWords words holding taken text status
