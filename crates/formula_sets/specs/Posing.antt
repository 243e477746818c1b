-- This module defines the question that a formula poses.
use Rattle.std.specs.Prelude.{◌≡◌, ◌≢◌, ◌<◌, ℕ, Bool, true, false, not, ◌&&◌, List, [], ◌∷◌, ◌++◌, length, map}
use Rattle.std.specs.Prelude.{slice_index, Option, Some, None, Result, Ok, Err, All, if◌then◌else◌, codes}
use Rattle.std.specs.List.{range_with_len}
use Rattle.game_model.specs.Game.{Distribution}
use Rattle.game_model.specs.Limits.{unit}
use Rattle.game_model.specs.Query.{Query, is_goal, is_dead, side_at}
use Rattle.label_lines.specs.Labels.{Labelling, is_known, states_with}
use Rattle.label_lines.specs.Owners.{Ownership, is_player}
use Rattle.formula_reader.specs.declared.formula.PathKind.{PathKind}
use Rattle.formula_reader.specs.declared.formula.PathKind.TheVariants.{Until, Within, Next, Always}
use Rattle.formula_reader.specs.Formula.{Tree, IsFlat}
use Rattle.formula_sets.specs.declared.fault.PoseFault.{PoseFault}
use Rattle.formula_sets.specs.declared.fault.PoseFault.TheVariants.{OutOfMemory, UnknownLabel, UnknownPlayer, NoInit}
use Rattle.formula_sets.specs.Truth.{holds, labels_in, unknown_label}
use Rattle.formula_sets.specs.Sides.{side_of, members_of, players_in, unknown_player}

-- A model is a game whose states have labels and owners.
pub record Model : Type 0 where
  pub game : List (List Distribution)
  pub labels : Labelling
  pub owners : Ownership

-- A posing is a question and its initial states.
pub record Posing : Type 0 where
  pub question : Query
  pub initial : List ℕ

-- A posing with `X` is a question of one step, the table from which its values begin, in units, and its initial states.
pub record NextPosing : Type 0 where
  pub question : Query
  pub opening : List ℕ
  pub initial : List ℕ

-- The path is `left U right`, with or without a bound on its steps.
abbrev pub IsUntil : PathKind → Type 0
IsUntil Until = Unit {0}
IsUntil (Within steps) = Unit {0}
IsUntil Next = ⊥
IsUntil Always = ⊥

-- This is the label of the initial states.
abbrev pub init : List ℕ
init = codes "init"

-- These are the labels that a formula names, in the order of the text.
abbrev pub formula_labels : Tree → List (List ℕ)
formula_labels f = labels_in f.left ++ labels_in f.right

-- These are the players that a formula names, in the order of the text.
abbrev pub formula_players : Tree → List (List ℕ)
formula_players f = members_of f.coalition ++ (players_in f.left ++ players_in f.right)

-- Neither side holds at the state.
abbrev pub neither_holds : Labelling → Tree → ℕ → Bool
neither_holds l f s = not (holds l f.right s) && not (holds l f.left s)

-- This is probability 1, in units, if the right side holds at the state, and otherwise 0.
abbrev pub opening_at : Labelling → Tree → ℕ → ℕ
opening_at l f s = if holds l f.right s then unit else 0

-- 1. This defines the question as a relation.

-- The model has the names in the formula, and the initial states are those with the label `init`, at least one.
pub record BeginsAt (l : Labelling) (o : Ownership) (f : Tree) (initial : List ℕ) : Type 0 where
  pub labels : All (λ name. is_known l name ≡ true) (formula_labels f)
  pub players : All (λ name. is_player o name ≡ true) (formula_players f)
  pub starts : initial ≡ states_with l init
  pub some : initial ≢ []

-- Whatever the path is, the question is about this game, gives each state the side that chooses there, and begins at
-- these states.
pub record IsSetUp (game : List (List Distribution)) (l : Labelling) (o : Ownership) (f : Tree) (question : Query)
    (initial : List ℕ) : Type 0 where
  pub begins : BeginsAt l o f initial
  pub game_same : question.game ≡ game
  pub side_count : length question.sides ≡ length game
  pub goal_count : length question.goals ≡ length game
  pub dead_count : length question.deads ≡ length game
  pub sides : (s : ℕ) → s < length game → side_at question s ≡ side_of f.coalition f.bound o s

-- A formula with `U` or `F` poses this question: goals are the states where the right side holds, and dead states those
-- where neither side does. No formula is inside it.
pub record Poses (game : List (List Distribution)) (l : Labelling) (o : Ownership) (f : Tree)
    (p : Posing) : Type 0 where
  pub flat : IsFlat f
  pub set_up : IsSetUp game l o f p.question p.initial
  pub goals : (s : ℕ) → s < length game → is_goal p.question s ≡ holds l f.right s
  pub deads : (s : ℕ) → s < length game → is_dead p.question s ≡ neither_holds l f s

-- A formula with `X` poses this question: no state is a goal or dead, and there is an opening table. No formula is
-- inside it.
pub record PosesNext (game : List (List Distribution)) (l : Labelling) (o : Ownership) (f : Tree)
    (p : NextPosing) : Type 0 where
  pub flat : IsFlat f
  pub set_up : IsSetUp game l o f p.question p.initial
  pub goals : (s : ℕ) → s < length game → is_goal p.question s ≡ false
  pub deads : (s : ℕ) → s < length game → is_dead p.question s ≡ false
  pub opening_count : length p.opening ≡ length game
  pub opening : (s : ℕ) → s < length game → slice_index p.opening s ≡ opening_at l f s

-- 2. This defines the question or the first fault.

-- This is the list of what `value` gives at each state.
abbrev pub at_states : {X : Type 0} → (ℕ → X) → ℕ → List X
at_states value n = map value (range_with_len 0 n)

-- This is the question about the game, with the side that chooses at each state, and these goals and dead states.
abbrev pub question_with : List (List Distribution) → Ownership → Tree → List Bool → List Bool → Query
question_with game o f goals deads = record {
  game = game;
  sides = at_states (side_of f.coalition f.bound o)
      (length game);
  goals = goals;
  deads = deads;
}

-- This is the question of a formula with `U` or `F`: to reach a state where the right side holds, through states where
-- the left side holds.
abbrev pub question_of : List (List Distribution) → Labelling → Ownership → Tree → Query
question_of game l o f = question_with game o f (at_states (holds l f.right) (length game))
    (at_states (neither_holds l f) (length game))

-- None of `states` states has a mark.
abbrev pub unmarked : ℕ → List Bool
unmarked states = at_states (λ s. false) states

-- This is the question of a formula with `X`, with no goal and no dead state. Its opening table says which states are
-- wanted.
abbrev pub next_question_of : List (List Distribution) → Ownership → Tree → Query
next_question_of game o f = question_with game o f (unmarked (length game)) (unmarked (length game))

-- The answer is these states, or the fault `NoInit` if there are none.
abbrev pub some_state : List ℕ → Result (List ℕ) PoseFault
some_state [] = Err NoInit
some_state (s ∷ states) = Ok (s ∷ states)

-- The answer is what is said of the initial states, or the fault if a label or a player is not known.
abbrev pub known_with : Option (List ℕ) → Option (List ℕ) → Result (List ℕ) PoseFault → Result (List ℕ) PoseFault
known_with (Some label) player initial = Err (UnknownLabel label)
known_with None (Some player) initial = Err (UnknownPlayer player)
known_with None None initial = initial

-- These are the initial states, or the first fault.
abbrev pub initial_said : Labelling → Ownership → Tree → Result (List ℕ) PoseFault
initial_said l o f = known_with (unknown_label l (formula_labels f)) (unknown_player o (formula_players f))
    (some_state (states_with l init))

-- This is what is made of initial states, or the fault.
abbrev pub made_of : {X : Type 0} → (List ℕ → X) → Result (List ℕ) PoseFault → Result X PoseFault
made_of make (Ok initial) = Ok (make initial)
made_of make (Err fault) = Err fault

-- This is the question that is posed, or the first fault.
abbrev pub pose_said : List (List Distribution) → Labelling → Ownership → Tree → Result Posing PoseFault
pose_said game l o f = made_of (λ initial. record { question = question_of game l o f; initial = initial })
    (initial_said l o f)

-- This is the question that a formula with `X` poses, or the first fault.
abbrev pub pose_next_said : List (List Distribution) → Labelling → Ownership → Tree → Result NextPosing PoseFault
pose_next_said game l o f = made_of (λ initial. record {
  question = next_question_of game o f;
  opening = at_states (opening_at l f) (length game);
  initial = initial;
}) (initial_said l o f)

-- Memory ran out, which is no fault of the formula.
abbrev pub IsOutOfMemory : PoseFault → Type 0
IsOutOfMemory fault = fault ≡ OutOfMemory
