-- A game under way is made of transitions that come in the order of their choices.
use Rattle.std.specs.Prelude.{◌≡◌, ◌<◌, ◌≤◌, ◌⊎◌, ℕ, ◌+◌, ◌==◌, List, [], ◌∷◌, ◌++◌, length, Option, Some, None, Result}
use Rattle.std.specs.Prelude.{Ok, Err, if◌then◌else◌}
use Rattle.std.specs.List.{All}
use Rattle.game_model.specs.Limits.{most_states, most_choices}
use Rattle.game_model.specs.Game.{Distribution}
use Rattle.game_model.specs.Draft.{Draft, with_choice, with_state}
use Rattle.distributions.specs.declared.choice.Part.{Part}
use Rattle.distributions.specs.declared.choice.ChoiceFault.{ChoiceFault}
use Rattle.distributions.specs.declared.choice.ChoiceFault.TheVariants.{OutOfMemory as NoMemory, TooFine, BadSum}
use Rattle.distributions.specs.Parts.{choice_said, DenotesChoice}
use Rattle.transition_lines.specs.declared.line.Transition.{Transition}
use Rattle.transition_lines.specs.declared.fault.TraFault.{TraFault}
use Rattle.tra_reader.specs.declared.build_state.BuildState.{BuildState}
use Rattle.tra_reader.specs.declared.build_state.BuildState.TheVariants.{Builds, Faulty, Crowded, Gap, OutOfMemory}
use Rattle.tra_reader.specs.declared.finished_choices.FinishedChoices.{FinishedChoices}
use Rattle.transition_lines.specs.Faults.{fault_of_choice}
use Rattle.transition_lines.specs.Limits.{most_stated_choices}
use Rattle.transition_lines.specs.Choices.{transitions_of, parts_of, self_loop, sum_of_first, choice_end, first_gap}
use Rattle.transition_lines.specs.Choices.{first_crowded, choices_said, states_said, if_as_stated}
use Rattle.transition_lines.specs.Order.{Rises, IsWithin, place_of, transition_place}

-- Each edge leads to one of n states.
abbrev pub LeadsInside : ℕ → Distribution → Type 0
LeadsInside n distribution = All (λ e. e.to < n) distribution.edges

-- 1. The finished choices are those of the first s states, and the first k of the next state.

-- No finished choice is missing, and `count` is their number. `crowded` is the first of the s states with too many
-- choices, if there is one.
pub record AreCounted (crowded : Option ℕ) (transitions : List Transition) (s k count : ℕ) : Type 0 where
  pub full : first_gap transitions s ≡ None
  pub few : first_crowded transitions s ≡ crowded
  pub there : (j : ℕ) → j < k → 0 < length (transitions_of transitions s j)
  pub total : count ≡ sum_of_first (choice_end transitions) s + k

-- The draft has the finished choices, and they lead to n states.
pub record AreDrafted (n : ℕ) (transitions : List Transition) (s k : ℕ) (draft : Draft) : Type 0 where
  pub done : states_said transitions s ≡ Ok draft.done
  pub under_way : choices_said transitions s k ≡ Ok draft.under_way
  pub as_many : length draft.done ≡ s
  pub as_many_under_way : length draft.under_way ≡ k
  pub some : All (λ choices. 0 < length choices) draft.done
  pub few : All (λ choices. length choices ≤ most_choices) draft.done
  pub inside : All (λ choices. All (LeadsInside n) choices) draft.done
  pub inside_under_way : All (LeadsInside n) draft.under_way

-- The first s states have no fault, and this is the first fault of the k choices of the next state.
pub record HaveChoiceFault (transitions : List Transition) (s k : ℕ) (fault : TraFault) : Type 0 where
  pub before : List (List Distribution)
  pub done : states_said transitions s ≡ Ok before
  pub said : choices_said transitions s k ≡ Err fault

-- This is the first fault of the finished choices.
abbrev pub HaveFault : List Transition → ℕ → ℕ → TraFault → Type 0
HaveFault transitions s k fault = (states_said transitions s ≡ Err fault) ⊎ HaveChoiceFault transitions s k fault

-- Choice j of state i is the first that is missing before a choice that is there.
pub record HasGap (transitions : List Transition) (i j : ℕ) : Type 0 where
  pub full : first_gap transitions i ≡ None
  pub there : (k : ℕ) → k < j → 0 < length (transitions_of transitions i k)
  pub missing : transitions_of transitions i j ≡ []
  pub later : ℕ
  pub behind : j < later
  pub found : 0 < length (transitions_of transitions i later)

-- This is the build state that the finished choices of n states make.
abbrev pub IsMade : ℕ → List Transition → ℕ → ℕ → ℕ → BuildState → Type 0
IsMade n transitions s k count (Builds draft) =
    AreCounted None transitions s k count × AreDrafted n transitions s k draft
IsMade n transitions s k count (Faulty fault) = AreCounted None transitions s k count × HaveFault transitions s k fault
IsMade n transitions s k count (Crowded i) = AreCounted (Some i) transitions s k count
IsMade n transitions s k count (Gap i j) = HasGap transitions i j × (place_of i j < place_of s k)
IsMade n transitions s k count OutOfMemory = Unit {0}

-- This is the build state that these transitions between n states make with the choices before the one under way.
abbrev pub AreFinished : ℕ → List Transition → FinishedChoices → Type 0
AreFinished n transitions finished =
    IsMade n transitions finished.state finished.choice finished.count finished.build_state

-- This is the place behind the finished choices.
abbrev pub place_behind : FinishedChoices → ℕ
place_behind finished = place_of finished.state finished.choice

-- No transition has a place at or after `from` and before `to`.
abbrev pub NoneBetween : List Transition → ℕ → ℕ → Type 0
NoneBetween transitions from to = (s k : ℕ) → k < most_stated_choices → from ≤ place_of s k → place_of s k < to
    → transitions_of transitions s k ≡ []

-- All choices before this place are finished.
pub record AreFinishedBefore (n : ℕ) (transitions : List Transition) (place : ℕ)
    (finished : FinishedChoices) : Type 0 where
  pub made : AreFinished n transitions finished
  pub low : finished.choice ≤ most_stated_choices
  pub none : NoneBetween transitions (place_behind finished) place
  pub within : All (IsWithin n) transitions

-- 2. These definitions are about steps.

-- The step finishes choice k of state s, which has these parts.
abbrev pub EndsChoice : List Part → ℕ → ℕ → BuildState → BuildState → Type 0
EndsChoice parts s k old new = (n count : ℕ) (transitions : List Transition) → parts ≡ parts_of transitions s k
    → 0 < length parts → All (IsWithin n) transitions
    → IsMade n transitions s k count old → IsMade n transitions s (k + 1) (count + 1) new

-- The step finishes state s, which has k choices.
abbrev pub EndsState : ℕ → ℕ → BuildState → BuildState → Type 0
EndsState s k old new = (n count : ℕ) (transitions : List Transition) → s < n → k ≤ most_stated_choices
    → ((j : ℕ) → k ≤ j → transitions_of transitions s j ≡ []) → All (IsWithin n) transitions
    → IsMade n transitions s k count old → IsMade n transitions (s + 1) 0 count new

-- The step finishes state s, which has too many choices.
abbrev pub CrowdsState : ℕ → BuildState → BuildState → Type 0
CrowdsState s old new = (k : ℕ) → most_choices < k → EndsState s k old new

-- The step notes that choice k of state s is missing before a later one.
abbrev pub NotesGap : ℕ → ℕ → BuildState → BuildState → Type 0
NotesGap s k old new = (n count later : ℕ) (transitions : List Transition) → k < later
    → transitions_of transitions s k ≡ [] → 0 < length (transitions_of transitions s later)
    → IsMade n transitions s k count old → IsMade n transitions s later count new

-- The step finishes the choice under way, which has these parts.
abbrev pub AddsChoice : List Part → FinishedChoices → FinishedChoices → Type 0
AddsChoice parts old new = (n : ℕ) (transitions : List Transition) → parts ≡ parts_of transitions old.state old.choice
    → 0 < length parts → All (IsWithin n) transitions → AreFinished n transitions old → AreFinished n transitions new

-- The step finishes the states before `to`.
abbrev pub EndsStates : ℕ → FinishedChoices → FinishedChoices → Type 0
EndsStates to old new = (n place : ℕ) (transitions : List Transition) → to ≤ n → place_of to 0 ≤ place
    → AreFinishedBefore n transitions place old → AreFinishedBefore n transitions place new

-- The step finishes all choices before state `to`. The parts are those of the choice under way.
abbrev pub EndsBefore : List Part → ℕ → FinishedChoices → FinishedChoices → Type 0
EndsBefore parts to old new = (n place : ℕ) (transitions : List Transition) → to ≤ n → place_of to 0 ≤ place
    → parts ≡ parts_of transitions old.state old.choice → All (IsWithin n) transitions
    → NoneBetween transitions (place_behind old + 1) place → AreFinished n transitions old
    → AreFinishedBefore n transitions place new

-- The step makes this choice, which has a transition, the one under way.
abbrev pub GoesTo : ℕ → FinishedChoices → FinishedChoices → Type 0
GoesTo choice old new = (n : ℕ) (transitions : List Transition)
    → 0 < length (transitions_of transitions old.state choice) → choice < most_stated_choices
    → AreFinishedBefore n transitions (place_of old.state choice) old → AreFinished n transitions new

-- The new draft has the choice with these parts behind the others.
pub record IsBuilt (parts : List Part) (old new : Draft) : Type 0 where
  pub distribution : Distribution
  pub said : choice_said parts ≡ Ok distribution
  pub denoted : DenotesChoice parts distribution
  pub is : new ≡ with_choice old distribution

-- The parts have this fault, or memory ran out.
abbrev pub IsChoiceFault : List Part → ChoiceFault → Type 0
IsChoiceFault parts fault = (fault ≡ NoMemory) ⊎ (choice_said parts ≡ Err fault)

-- The draft ends a state that has `count` choices. If it has none, it gets a move to itself.
abbrev pub ended : ℕ → ℕ → Draft → Draft
ended s count draft = if count == 0 then with_state (with_choice draft (self_loop s)) else with_state draft

-- This is the build state after a choice with this fault.
abbrev pub after_fault : ℕ → ℕ → ChoiceFault → BuildState
after_fault s k NoMemory = OutOfMemory
after_fault s k (TooFine first second) = Faulty (fault_of_choice s k (TooFine first second))
after_fault s k (BadSum sum denominator) = Faulty (fault_of_choice s k (BadSum sum denominator))

-- The states of the draft make a game.
pub record IsReady (draft : Draft) : Type 0 where
  pub some : 0 < length draft.done
  pub few : length draft.done ≤ most_states
  pub chosen : All (λ choices. 0 < length choices) draft.done
  pub bounded : All (λ choices. length choices ≤ most_choices) draft.done
  pub inside : All (λ choices. All (LeadsInside (length draft.done)) choices) draft.done

-- This is true of the draft if one is built: no choice is faulty or missing, no state has too many, and memory did not
-- run out.
abbrev pub IfBuilds : BuildState → (Draft → Type 0) → Type 0
IfBuilds (Builds draft) P = P draft
IfBuilds build_state P = Unit {0}

-- The choices are as many as stated, or this is the fault.
abbrev pub IsAsStated : Option ℕ → ℕ → Option TraFault → Type 0
IsAsStated stated read None = (game : Result (List (List Distribution)) TraFault) → if_as_stated stated read game ≡ game
IsAsStated stated read (Some fault) = (game : Result (List (List Distribution)) TraFault)
    → if_as_stated stated read game ≡ Err fault

-- 3. These definitions are about the game.

-- A contract sees this of a game under way: the number of states, the finished choices, and the parts of the choice
-- under way.
pub record Growing : Type 0 where
  pub states : ℕ
  pub finished : FinishedChoices
  pub parts : List Part

-- This is the place of the choice under way.
abbrev pub place_under_way : Growing → ℕ
place_under_way game = place_behind game.finished

-- The last of these transitions has this place.
pub record EndsAt (place : ℕ) (transitions : List Transition) : Type 0 where
  pub before : List Transition
  pub last : Transition
  pub are : transitions ≡ before ++ last ∷ []
  pub there : transition_place last ≡ place

-- The game holds these transitions, which come in the order of their choices and are within n states.
pub record HoldsInOrder (game : Growing) (n : ℕ) (transitions : List Transition) : Type 0 where
  pub states : game.states ≡ n
  pub some : 0 < n
  pub few : n ≤ most_states
  pub within : All (IsWithin n) transitions
  pub order : Rises transition_place transitions
  -- No transition belongs to a choice behind the one under way.
  pub upto : All (λ t. transition_place t ≤ place_under_way game) transitions
  -- The last transition belongs to the choice under way. If that choice has no part, no transition has come.
  pub begun : 0 < length game.parts → EndsAt (place_under_way game) transitions
  pub none : game.parts ≡ [] → transitions ≡ []
  pub parts : game.parts ≡ parts_of transitions game.finished.state game.finished.choice
  pub state_in : game.finished.state < n
  pub choice_in : game.finished.choice < most_stated_choices
  pub finished : AreFinished n transitions game.finished

-- The game holds a list of transitions, which may be empty.
pub record HoldsSome (game : Growing) : Type 0 where
  pub n : ℕ
  pub transitions : List Transition
  pub holds : HoldsInOrder game n transitions
