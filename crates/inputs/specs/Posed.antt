-- This module defines the problem that the words and the texts of a command pose, or their first refusal.
use Rattle.std.specs.Prelude.{◌≡◌, ◌&&◌, ℕ, Bool, List, length, if◌then◌else◌}
use Rattle.game_model.specs.Game.{Distribution}
use Rattle.label_lines.specs.Labels.{Labelling}
use Rattle.label_lines.specs.Owners.{Ownership}
use Rattle.formula_reader.specs.Formula.{Tree, is_flat, tree_of}
use Rattle.formula_reader.specs.Grammar.{formula_said}
use Rattle.rpatl_syntax.specs.Dual.{dual_of}
use Rattle.formula_reader.specs.declared.formula.PathKind.{PathKind}
use Rattle.formula_reader.specs.declared.formula.PathKind.TheVariants.{Until, Within, Next, Always}
use Rattle.formula_sets.specs.Posing.{initial_said, pose_said, pose_next_said}
use Rattle.output.specs.declared.refusal.Refusal.TheVariants.{OfFormula, OfQuestion, WrongKind}
use Rattle.inputs.specs.declared.model.Loaded.{Loaded}
use Rattle.command_words.specs.Words.{Asked}
use Rattle.inputs.specs.declared.problem.Paths.{Paths}
use Rattle.inputs.specs.Problems.{Problem, OfReach, OfWithin, OfNext, OfNested, takes_formula}
use Rattle.inputs.specs.Said.{Said, Refuses, Denoted, and_then, read_said}
use Rattle.inputs.specs.Sources.{Sources}
use Rattle.inputs.specs.Texts.{game_said, labels_said, owners_said}

-- This is the formula of a text.
abbrev pub formula_read : List ℕ → Said Tree
formula_read text = read_said OfFormula (formula_said text)

-- What a command names is read as a game, its labels, its owners and a formula.
pub record Reading : Type 0 where
  pub game : List (List Distribution)
  pub labels : Labelling
  pub owners : Ownership
  pub formula : Tree

-- Labels and owners are those of the game's states.
pub record HasSizes (game : List (List Distribution)) (labels : Labelling) (owners : Ownership) : Type 0 where
  pub labels_of : labels.states ≡ length game
  pub owners_of : length owners.owners ≡ length game

-- Contracts see what was loaded as this reading.
abbrev pub reading_of : Loaded → Reading
reading_of loaded = record {
  game = loaded.game;
  labels = loaded.labels;
  owners = loaded.owners;
  formula = tree_of loaded.formula;
}

-- This is the reading of a game, its labels and owners, and a formula.
abbrev pub reading_with : List (List Distribution) → Labelling → Ownership → Tree → Reading
reading_with game labels owners formula = record { game = game; labels = labels; owners = owners; formula = formula }

-- This is said when a game, its labels and its owners are known: the formula is read.
abbrev pub behind_owners : Asked → List (List Distribution) → Labelling → Ownership → Said Reading
behind_owners asked game labels owners =
    and_then (formula_read asked.formula) (λ formula. Denoted (reading_with game labels owners formula))

-- This is said when a game and its labels are known: the owners and then the formula are read.
abbrev pub behind_labels : Sources → Asked → List (List Distribution) → Labelling → Said Reading
behind_labels sources asked game labels =
    and_then (owners_said asked.own sources.own (length game)) (λ owners. behind_owners asked game labels owners)

-- This is said when a game is known: labels, owners and then the formula are read.
abbrev pub behind_game : Sources → Asked → List (List Distribution) → Said Reading
behind_game sources asked game = and_then (labels_said sources.lab (length game))
    (λ labels. behind_labels sources asked game labels)

-- The texts and words of a command say this together, or the first refusal, in the order game, labels, owners, formula.
abbrev pub reading_said : Sources → Asked → Said Reading
reading_said sources asked = and_then (game_said sources.tra) (λ game. behind_game sources asked game)

-- A reading poses this problem when the goals of a formula are to be reached.
abbrev pub reach_posed : Tree → Reading → Said Problem
reach_posed f r =
    and_then (read_said OfQuestion (pose_said r.game r.labels r.owners f)) (λ posing. Denoted (OfReach posing))

-- A reading poses this problem by the kind of its paths.
abbrev pub posed_by : PathKind → Reading → Said Problem
posed_by Until r = reach_posed r.formula r
posed_by (Within steps) r = and_then (read_said OfQuestion (pose_said r.game r.labels r.owners r.formula))
    (λ posing. Denoted (OfWithin steps posing))
posed_by Next r = and_then (read_said OfQuestion (pose_next_said r.game r.labels r.owners r.formula))
    (λ posing. Denoted (OfNext posing))
posed_by Always r = reach_posed (dual_of r.formula) r

-- A reading whose formula has others inside poses this problem.
abbrev pub nested_posed : Reading → Said Problem
nested_posed r = and_then (read_said OfQuestion (initial_said r.labels r.owners r.formula))
    (λ initial. Denoted (OfNested (record { game = r.game; labels = r.labels; owners = r.owners }) initial))

-- A reading poses this problem, whichever command asks.
abbrev pub any_posed : Reading → Said Problem
any_posed r = if is_flat r.formula.left && is_flat r.formula.right then posed_by r.formula.kind r else nested_posed r

-- A problem is refused if the command does not take the formula.
abbrev pub where_taken : Bool → Problem → Said Problem
where_taken taken problem = if taken then Denoted problem else Refuses WrongKind

-- A reading poses this problem to a command that takes such paths, or is refused for this.
abbrev pub posed : Paths → Reading → Said Problem
posed paths reading = and_then (any_posed reading) (λ problem.
    where_taken (takes_formula paths reading.formula) problem)

-- These texts and words pose this problem to a command that takes such paths, or this is their first refusal.
abbrev pub problem_said : Paths → Sources → Asked → Said Problem
problem_said paths sources asked = and_then (reading_said sources asked) (λ reading. posed paths reading)
