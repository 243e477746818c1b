-- Transitions make choices, in whatever order they come.
use Rattle.std.specs.Prelude.{◌≡◌, ◌<◌, ◌≤◌, ℕ, zero, suc, ◌+◌, ◌==◌, max, List, [], ◌∷◌, ◌++◌, length, map, nat_lt}
use Rattle.std.specs.Prelude.{slice_index_or, Option, Some, None, option_map, Result, Ok, Err, if◌then◌else◌}
use Rattle.std.specs.List.{filter}
use Rattle.std.specs.Option.{option_or}
use Rattle.text_lines.specs.Text.{is_nil}
use Rattle.game_model.specs.Game.{Distribution, no_distribution}
use Rattle.game_model.specs.Limits.{most_choices}
use Rattle.distributions.specs.declared.choice.Part.{Part}
use Rattle.distributions.specs.declared.choice.ChoiceFault.{ChoiceFault}
use Rattle.distributions.specs.Parts.{DenotesChoice, choice_said}
use Rattle.transition_lines.specs.declared.line.Transition.{Transition}
use Rattle.transition_lines.specs.declared.fault.TraCause.TheVariants.{ChoiceGap, TooManyChoices, ChoiceCount, Choice}
use Rattle.transition_lines.specs.declared.fault.TraFault.{TraFault}
use Rattle.transition_lines.specs.Faults.{fault_of_all}
use Rattle.transition_lines.specs.Lines.{is_of}

-- 1. These definitions are relations.

-- These are the transitions of choice k of state s, in the order of their lines.
abbrev pub transitions_of : List Transition → ℕ → ℕ → List Transition
transitions_of transitions s k = filter (is_of s k) transitions

-- A transition gives this to its choice: the destination and the probability of going there.
abbrev pub part_of : Transition → Part
part_of transition = record { to = transition.destination; share = transition.share }

-- These are the parts of choice k of state s, in the order of their lines.
abbrev pub parts_of : List Transition → ℕ → ℕ → List Part
parts_of transitions s k = map part_of (transitions_of transitions s k)

-- The choices of the state that have a transition are the first `count`.
pub record HasChoices (transitions : List Transition) (s count : ℕ) : Type 0 where
  pub there : (k : ℕ) → k < count → 0 < length (transitions_of transitions s k)
  pub no_more : (k : ℕ) → count ≤ k → transitions_of transitions s k ≡ []

-- This is a move of weight 1 to the state itself.
abbrev pub self_loop : ℕ → Distribution
self_loop s = record { total = 1; edges = record { to = s; weight = 1 } ∷ [] }

-- These are the choices of a state if its first `count` choices have a transition. If `count` is 0, the one choice is a
-- move to itself.
pub record IsState (transitions : List Transition) (s count : ℕ) (choices : List Distribution) : Type 0 where
  pub has : HasChoices transitions s count
  pub few : count ≤ most_choices
  pub alone : count ≡ 0 → choices ≡ self_loop s ∷ []
  pub as_many : 0 < count → length choices ≡ count
  pub made : (k : ℕ) → k < count → DenotesChoice (parts_of transitions s k) (slice_index_or choices k no_distribution)

-- This is the sum of the first n numbers.
abbrev pub sum_of_first : (ℕ → ℕ) → ℕ → ℕ
sum_of_first f zero = 0
sum_of_first f (suc n) = sum_of_first f n + f n

-- 2. These definitions go by cases, with the first fault.

-- This is one more than the greatest choice of the state that has a transition, or 0 if none has.
abbrev pub choice_end : List Transition → ℕ → ℕ
choice_end [] s = 0
choice_end (transition ∷ transitions) s = if transition.source ==
    s then max (transition.choice + 1) (choice_end transitions s) else choice_end transitions s

-- This is the least of the first `count` choices of a state that has no transition.
abbrev pub least_missing : List Transition → ℕ → ℕ → Option ℕ
least_missing transitions s zero = None
least_missing transitions s (suc k) = option_or (least_missing transitions s k)
    (if is_nil (transitions_of transitions s k) then Some k else None)

-- This is choice k of state s, as the pair of both numbers.
abbrev pub of_state : ℕ → ℕ → ℕ × ℕ
of_state s k = (s, k)

-- This is the first of n states with a gap before its greatest choice, and the least missing choice there.
abbrev pub first_gap : List Transition → ℕ → Option (ℕ × ℕ)
first_gap transitions zero = None
first_gap transitions (suc s) = option_or (first_gap transitions s)
    (option_map (of_state s) (least_missing transitions s (choice_end transitions s)))

-- This is the state, if it has more choices than a state may have.
abbrev pub if_crowded : ℕ → ℕ → Option ℕ
if_crowded s count = if nat_lt most_choices count then Some s else None

-- This is the first of n states with more choices than a state may have.
abbrev pub first_crowded : List Transition → ℕ → Option ℕ
first_crowded transitions zero = None
first_crowded transitions (suc s) = option_or (first_crowded transitions s) (if_crowded s (choice_end transitions s))

-- This is the list with one more at its end, or the first fault of the two.
abbrev pub then_push : {X : Type 0} → Result (List X) TraFault → Result X TraFault → Result (List X) TraFault
then_push (Ok xs) (Ok x) = Ok (xs ++ x ∷ [])
then_push (Ok xs) (Err fault) = Err fault
then_push (Err fault) x = Err fault

-- This is the distribution of choice k of state s, or its fault, which belongs to no single line.
abbrev pub choice_at : ℕ → ℕ → Result Distribution ChoiceFault → Result Distribution TraFault
choice_at s k (Ok distribution) = Ok distribution
choice_at s k (Err fault) = Err (fault_of_all (Choice s k fault))

-- These are the first `count` choices of a state, or the first fault of one.
abbrev pub choices_said : List Transition → ℕ → ℕ → Result (List Distribution) TraFault
choices_said transitions s zero = Ok []
choices_said transitions s (suc k) = then_push (choices_said transitions s k)
    (choice_at s k (choice_said (parts_of transitions s k)))

-- These are the choices of a state, or the first fault of one. A state without a transition has a move to itself.
abbrev pub state_said : List Transition → ℕ → Result (List Distribution) TraFault
state_said transitions s = if choice_end transitions s ==
    0 then Ok (self_loop s ∷ []) else choices_said transitions s (choice_end transitions s)

-- These are the choices of the first n states, or the first fault of one.
abbrev pub states_said : List Transition → ℕ → Result (List (List Distribution)) TraFault
states_said transitions zero = Ok []
states_said transitions (suc s) = then_push (states_said transitions s) (state_said transitions s)

-- The answer is the game, or the fault if choice k of state s is missing before a later one.
abbrev pub unless_gap : Option (ℕ × ℕ) → Result (List (List Distribution)) TraFault
    → Result (List (List Distribution)) TraFault
unless_gap (Some (s, k)) game = Err (fault_of_all (ChoiceGap s k))
unless_gap None game = game

-- The answer is the game, or the fault if state s has more choices than a state may have.
abbrev pub unless_crowded : Option ℕ → Result (List (List Distribution)) TraFault
    → Result (List (List Distribution)) TraFault
unless_crowded (Some s) game = Err (fault_of_all (TooManyChoices s))
unless_crowded None game = game

-- The answer is the game, or the fault if the choices of an MDP are not as many as stated.
abbrev pub if_as_stated : Option ℕ → ℕ → Result (List (List Distribution)) TraFault
    → Result (List (List Distribution)) TraFault
if_as_stated None read game = game
if_as_stated (Some stated) read game = if read == stated then game else Err (fault_of_all (ChoiceCount read stated))

-- This is the game of n states with these transitions, or the first fault of the whole.
abbrev pub transitions_game : List Transition → ℕ → Option ℕ → Result (List (List Distribution)) TraFault
transitions_game transitions n stated =
    unless_gap (first_gap transitions n)
    (unless_crowded (first_crowded transitions n)
    (if_as_stated stated (sum_of_first (choice_end transitions) n) (states_said transitions n)))
