-- These definitions say which events are lawful, what they do, and why others are refused.
use Rattle.std.specs.Prelude.{◌≡◌, ◌≢◌, ℕ, ◌<◌, Bool, not, ◌||◌, ◌==◌, List, [], ◌∷◌, ◌++◌, length, slice_index}
use Rattle.std.specs.Prelude.{slice_set, Option, Some, None, IsSome, is_none, Result, Ok, Err, ◌⊎◌, if◌then◌else◌}
use Rattle.std.specs.Prelude.{nat_lt, nat_le}
use Rattle.game_model.specs.declared.game.Side.{Side}
use Rattle.game_model.specs.declared.game.Side.TheVariants.{Max, Min}
use Rattle.game_model.specs.Game.{choices_of, choice_of}
use Rattle.game_model.specs.Query.{Query, states, is_goal, is_dead, side_at}
use Rattle.game_model.specs.Rounded.{down_value, down_step}
use Rattle.step_core.specs.declared.event.Event.{Event}
use Rattle.step_core.specs.declared.event.Event.TheVariants.{Load, Won, Lost, Split, Join}
use Rattle.step_core.specs.declared.event.Refused.{Refused}
use Rattle.step_core.specs.declared.event.Refused.TheVariants.{OutOfMemory, NoView, SameView, NoState, FixedState}
use Rattle.step_core.specs.declared.event.Refused.TheVariants.{BadChoice, NotFrom, NotRaised, TooHigh, SameWord}
use Rattle.step_core.specs.Word.{value_in, choice_in, value_at, greater_words}
use Rattle.fixed_bellman.specs.Given.{IsFree, IsGivenBy}
use Rattle.step_core.specs.Configuration.{Configuration, view_of, seen_by}

-- There is such a view, and it is not spent.
abbrev pub IsLive : Configuration → ℕ → Type 0
IsLive w view = IsSome (view_of w view)

-- An exchange raises the word, to a value that its choice gives over what the view has seen.
pub record Raises (w : Configuration) (view state from to : ℕ) : Type 0 where
  pub live : IsLive w view
  pub inside : state < states w.question
  pub free : IsFree w.question state
  pub is_from : slice_index w.words state ≡ from
  pub raised : value_in from < value_in to
  pub given : IsGivenBy w.question (value_at (seen_by w view)) state (value_in to) (choice_in to)

-- An event is lawful if its views are live and its state is one of the question. An exchange that is won must raise the
-- word. One that is lost must find another word than the view has seen. A join must be of two different views.
abbrev pub Lawful : Configuration → Event → Type 0
Lawful w (Load view state) = IsLive w view × (state < states w.question)
Lawful w (Won view state from to) = Raises w view state from to
Lawful w (Lost view state) = IsLive w view × (state < states w.question)
    × (slice_index w.words state ≢ slice_index (seen_by w view) state)
Lawful w (Split view) = IsLive w view
Lawful w (Join view other) = IsLive w view × IsLive w other × (view ≢ other)

-- The view has now seen these words.
abbrev pub with_view : Configuration → ℕ → List ℕ → Configuration
with_view w view seen = record w { views = slice_set w.views view (Some seen) }

-- The view sees the word of the state.
abbrev pub looked : Configuration → ℕ → ℕ → Configuration
looked w view state = with_view w view (slice_set (seen_by w view) state (slice_index w.words state))

-- This is the effect of a lawful event.
abbrev pub after : Configuration → Event → Configuration
after w (Load view state) = looked w view state
after w (Won view state from to) = looked (record w { words = slice_set w.words state to }) view state
after w (Lost view state) = looked w view state
after w (Split view) = record w { views = w.views ++ Some (seen_by w view) ∷ [] }
after w (Join view other) = with_view (record w { views = slice_set w.views other None }) view
    (greater_words (seen_by w view) (seen_by w other))

-- An event wins this many exchanges.
abbrev pub wins : Event → ℕ
wins (Load view state) = 0
wins (Won view state from to) = 1
wins (Lost view state) = 0
wins (Split view) = 0
wins (Join view other) = 0

-- The first value is for the maximiser, and the second for the minimiser.
abbrev pub on_side : {X : Type 0} → Side → X → X → X
on_side Max greatest least = greatest
on_side Min greatest least = least

-- A raised word may not name this choice: a state of the maximiser has no such choice, and at a state of the minimiser
-- it is not 0.
abbrev pub is_bad_choice : Query → ℕ → ℕ → Bool
is_bad_choice q s choice = on_side (side_at q s) (nat_le (length (choices_of q.game s)) choice) (not (choice == 0))

-- This is what the choice gives over a table. At a state of the minimiser it is the least that any choice gives.
abbrev pub given_by : Query → (ℕ → ℕ) → ℕ → ℕ → ℕ
given_by q table s choice = on_side (side_at q s) (down_value table (choice_of q.game s choice)) (down_step q table s)

-- Two reasons come before the others: there is no such live view, or no such state.
abbrev pub unless_there : Configuration → ℕ → ℕ → List (Bool × Refused) → List (Bool × Refused)
unless_there w view state others = (is_none (view_of w view), NoView) ∷ (nat_le (states w.question) state, NoState)
    ∷ others

-- Four reasons come before the others: the word of the state may not be exchanged in this way.
abbrev pub unless_raised : Configuration → ℕ → ℕ → ℕ → List (Bool × Refused) → List (Bool × Refused)
unless_raised w state from to others =
    (is_goal w.question state || is_dead w.question state, FixedState)
    ∷ (is_bad_choice w.question state (choice_in to), BadChoice)
    ∷ (not (slice_index w.words state == from), NotFrom)
    ∷ (nat_le (value_in to) (value_in from), NotRaised)
    ∷ others

-- These are the reasons against an event, in their order.
abbrev pub reasons : Configuration → Event → List (Bool × Refused)
reasons w (Load view state) = unless_there w view state []
reasons w (Won view state from to) =
    unless_there w view state
    (unless_raised w state from to
    ((nat_lt (given_by w.question (value_at (seen_by w view)) state (choice_in to)) (value_in to), TooHigh) ∷ []))
reasons w (Lost view state) = unless_there w view state ((
  slice_index w.words state
      == slice_index (seen_by w view) state,
  SameWord,
) ∷ [])
reasons w (Split view) = (is_none (view_of w view), NoView) ∷ []
reasons w (Join view other) = (is_none (view_of w view) || is_none (view_of w other), NoView)
    ∷ (view == other, SameView) ∷ []

-- This is the first reason that holds.
abbrev pub first_of : List (Bool × Refused) → Option Refused
first_of [] = None
first_of (reason ∷ others) = if reason.0 then Some reason.1 else first_of others

-- An event that is taken has no reason against it. One that is refused has this reason, or memory ran out.
abbrev pub Answers : Result (Unit {0}) Refused → Option Refused → Type 0
Answers (Ok _) said = said ≡ None
Answers (Err refused) said = (refused ≡ OutOfMemory) ⊎ (said ≡ Some refused)

-- One more view can have a number if the event makes one.
abbrev pub HasRoom : Configuration → Event → Type 0
HasRoom w (Split view) = length w.views < 4294967295
HasRoom w (Load view state) = Unit {0}
HasRoom w (Won view state from to) = Unit {0}
HasRoom w (Lost view state) = Unit {0}
HasRoom w (Join view other) = Unit {0}

-- A list of lawful events leads from one configuration to another.
abbrev pub Leads : Configuration → List Event → Configuration → Type 0
Leads w [] later = w ≡ later
Leads w (event ∷ events) later = Lawful w event × Leads (after w event) events later
