-- This module says which problem texts and words ask, as a relation.
use Rattle.std.specs.Prelude.{◌≡◌, ◌≤◌, ℕ, true, List, length, Option, Some, None}
use Rattle.text_lines.specs.Limits.{most_bytes}
use Rattle.game_model.specs.Game.{Distribution}
use Rattle.transition_lines.specs.Text.{DenotesGame}
use Rattle.label_lines.specs.Denotes.{DenotesLabels, DenotesOwners}
use Rattle.label_lines.specs.Labels.{Labelling}
use Rattle.label_lines.specs.Owners.{Ownership}
use Rattle.formula_reader.specs.Formula.{Tree}
use Rattle.formula_reader.specs.Rules.{DenotesFormula}
use Rattle.command_words.specs.Words.{Asked}
use Rattle.inputs.specs.declared.problem.Paths.{Paths}
use Rattle.inputs.specs.Problems.{Problem, PosesProblem, takes_formula}
use Rattle.inputs.specs.Sources.{Sources}
use Rattle.inputs.specs.Texts.{single_owner}

-- There is a text within the limit, and this is true of it.
pub record GivenTextWith (source : Option (List ℕ)) (IsSo : List ℕ → Type 0) : Type 0 where
  pub text : List ℕ
  pub given : source ≡ Some text
  pub short : length text ≤ most_bytes
  pub is_so : IsSo text

-- If no owner file is named, one player owns all states. Else these are the owners that its text denotes.
abbrev pub AreOwners : Option (List ℕ) → Option (List ℕ) → ℕ → Ownership → Type 0
AreOwners None source states owners = owners ≡ single_owner states
AreOwners (Some name) source states owners = GivenTextWith source (λ text. DenotesOwners text states owners)

-- The transition text denotes a game, the label text denotes labels of its states, and the owner text denotes owners of
-- them. The formula poses the problem of these, and the command takes it.
pub record Asks (paths : Paths) (sources : Sources) (asked : Asked) (problem : Problem) : Type 0 where
  pub game : List (List Distribution)
  pub labels : Labelling
  pub owners : Ownership
  pub formula : Tree
  pub tra : GivenTextWith sources.tra (λ text. DenotesGame text game)
  pub lab : GivenTextWith sources.lab (λ text. DenotesLabels text (length game) labels)
  pub own : AreOwners asked.own sources.own (length game) owners
  pub spelled : DenotesFormula asked.formula formula
  pub poses : PosesProblem game labels owners formula problem
  pub taken : takes_formula paths formula ≡ true
