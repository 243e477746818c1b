-- These definitions give the answer to a problem with a bound on the steps: exactly that many are made.
use Rattle.std.specs.Prelude.{◌≡◌, ◌<◌, ◌≤◌, ◌==◌, ◌*◌, ◌^◌, ℕ, Bool, false, List, length, map, slice_index, All}
use Rattle.game_model.specs.Limits.{unit}
use Rattle.game_model.specs.Query.{Query, states}
use Rattle.game_model.specs.Values.{denominator, numerator}
use Rattle.game_model.specs.Rounded.{opening}
use Rattle.strategies.specs.Strategies.{AreBest}
use Rattle.strategies.specs.Next.{AreBestNext}
use Rattle.formula_reader.specs.Formula.{Tree}
use Rattle.bounded_rounds.specs.Exact.{IsBracketed, IsNext, next_numerator}
use Rattle.bounded_rounds.specs.Steps.{IsSweep}
use Rattle.verdicts.specs.Exact.{IsRight}
use Rattle.verdicts.specs.Report.{IsLine, report}
use Rattle.verdicts.specs.declared.report.How.TheVariants.{Steps}
use Rattle.output.specs.Printed.{line_of, status_of}
use Rattle.output.specs.declared.status.Status.{Status}

-- The text and the status are the answer for the values of this many steps from an opening table. The values are these
-- numerators over that power of the denominator, and the bounds are the rounded steps of the table.
pub record IsSweepReport (q : Query) (opening : ℕ → ℕ) (steps : ℕ) (numerators : ℕ → ℕ) (initial : List ℕ) (f : Tree)
    (text : List ℕ) (status : Status) : Type 0 where
  pub inside : All (λ s. s < states q) initial
  pub lower : List ℕ
  pub upper : List ℕ
  pub sweep : IsSweep q opening steps lower upper
  -- The value lies between the bounds, and is at most as many units from each as there are steps.
  pub bracketed : All (λ s. IsBracketed steps (denominator q.game ^ steps) (slice_index lower s) (slice_index upper s)
      (unit * numerators s)) initial
  pub written : text ≡ report (map (line_of false f.bound (Steps steps) lower upper) initial)
  pub lines : All IsLine (map (line_of false f.bound (Steps steps) lower upper) initial)
  pub ends : status ≡ status_of (map (line_of false f.bound (Steps steps) lower upper) initial)
  -- True and False are right.
  pub right : All (λ s. IsRight f.bound (numerators s) (denominator q.game ^ steps)
      (line_of false f.bound (Steps steps) lower upper s).verdict) initial

-- For `F<=k` and `U<=k` the report is of the values within this many steps, which are what both sides can be sure of by
-- strategies with memory and dice.
pub record IsWithinReport (q : Query) (steps : ℕ) (initial : List ℕ) (f : Tree) (text : List ℕ)
    (status : Status) : Type 0 where
  pub report : IsSweepReport q (opening q) steps (numerator q steps) initial f text status
  pub best : AreBest q steps

-- These are the states to which an opening table gives the unit.
abbrev pub opens : List ℕ → ℕ → Bool
opens opening s = slice_index opening s == unit

-- An opening table of one step is the unit at some states and 0 at the others, and no state is a goal or dead.
pub record IsOpening (q : Query) (opening : List ℕ) : Type 0 where
  pub many : length opening ≡ states q
  pub units : All (λ v. v ≤ unit) opening
  pub next : IsNext q (slice_index opening) (opens opening)

-- For `X` the report is of the probabilities of the next state, which are what both sides can be sure of.
pub record IsNextReport (q : Query) (table : List ℕ) (initial : List ℕ) (f : Tree) (text : List ℕ)
    (status : Status) : Type 0 where
  pub report : IsSweepReport q (slice_index table) 1 (next_numerator q (opens table)) initial f text status
  pub best : AreBestNext q (opens table) (next_numerator q (opens table))
