-- These definitions give the answer to a formula with others inside.
use Rattle.std.specs.Prelude.{◌≡◌, ◌<◌, ◌≤◌, ◌^◌, ◌++◌, ℕ, false, List, length, map, codes, All, Ok}
use Rattle.formula_reader.specs.Formula.{Tree, formulas_inside, tree_of}
use Rattle.formula_tokens.specs.Limits.{longest}
use Rattle.rpatl_syntax.specs.Spellable.{IsSpellable}
use Rattle.formula_sets.specs.Posing.{Model, initial_said}
use Rattle.formula_truth.specs.declared.way.Way.{Way}
use Rattle.formula_truth.specs.ThreeValued.{Band}
use Rattle.nested_truth.specs.Nested.{IsNested}
use Rattle.output.specs.Refusals.{numbered}
use Rattle.verdicts.specs.Report.{IsLine, report}
use Rattle.verdicts.specs.declared.report.How.{How}
use Rattle.inputs.specs.declared.model.Loaded.{Loaded}
use Rattle.inputs.specs.Posed.{HasSizes}
use Rattle.output.specs.Printed.{line_of, status_of}
use Rattle.output.specs.declared.status.Status.{Status}

-- The line `inner I undecided U` says that I formulas are inside, and that U pairs of one of them and a state are left
-- undecided.
abbrev pub inside_text : ℕ → ℕ → List ℕ
inside_text inner undecided = numbered (codes "inner ") inner
    ++ (numbered (codes " undecided ") undecided ++ codes "\n")

-- The text and the status are the answer: the line about the formulas inside, and a report of bounds that are sound for
-- the exact question. True and False are right for it. The bounds of a `G` are mirrored already.
pub record IsNestedReport (m : Model) (initial : List ℕ) (f : Tree) (way : Way) (text : List ℕ)
    (status : Status) : Type 0 where
  pub inside : All (λ s. s < length m.game) initial
  pub band : Band
  pub how : How
  -- This many formulas are inside, and this many pairs of one of them and a state are left undecided.
  pub inner : ℕ
  pub undecided : ℕ
  pub nested : IsNested m f initial way band how inner undecided
  pub written : text ≡ inside_text inner undecided
      ++ report (map (line_of false f.bound how band.lower band.upper) initial)
  pub lines : All IsLine (map (line_of false f.bound how band.lower band.upper) initial)
  pub counts : (inner < 2 ^ 32) × (undecided < 2 ^ 32)
  pub ends : status ≡ status_of (map (line_of false f.bound how band.lower band.upper) initial)

-- What was loaded poses the problem of these initial states.
pub record IsAnswerable (loaded : Loaded) (initial : List ℕ) : Type 0 where
  pub sizes : HasSizes loaded.game loaded.labels loaded.owners
  pub spellable : IsSpellable (tree_of loaded.formula)
  pub few : formulas_inside (tree_of loaded.formula) ≤ longest
  pub named : initial_said loaded.labels loaded.owners (tree_of loaded.formula) ≡ Ok initial
