-- An event is lawful exactly where there is no reason against it.
use Rattle.std.proofs.Common.{◌≡◌, ◌≢◌, ℕ, ◌<◌, ◌≤◌, Bool, true, false, List, [], ◌∷◌, length, arith, refl, sym, ap}
use Rattle.std.proofs.Common.{◌∙◌, subst, ne_eqb, eq-eqb, inl, inr, ◌⊎◌}
use Rattle.std.specs.Prelude.{slice_index, ◌==◌, ◌||◌, not, Option, Some, None, IsSome, is_none, nat_lt, nat_le}
use Rattle.std.specs.Prelude.{if◌then◌else◌, Result, Ok, Err, OnOk, IfErr}
use Rattle.std.proofs.lemmas.Option.{none-some}
use Rattle.std.proofs.lemmas.Bool.{true≢false, eqb-true, or_from, or_parts, not_from_true, eqb-false}
use Rattle.std.proofs.lemmas.Bool.Decides.{nat_tests}
use Rattle.game_model.specs.declared.game.Side.{Side}
use Rattle.game_model.specs.declared.game.Side.TheVariants.{Max, Min}
use Rattle.game_model.specs.Game.{choices_of, choice_of, no_distribution}
use Rattle.game_model.specs.Query.{Query, IsQuery, states, is_goal, is_dead, side_at}
use Rattle.game_model.specs.Rounded.{down_value, down_step}
use Rattle.game_model.proofs.Best.{optimum-below}
use Rattle.step_core.specs.declared.event.Event.{Event}
use Rattle.step_core.specs.declared.event.Event.TheVariants.{Load, Won, Lost, Split, Join}
use Rattle.step_core.specs.declared.event.Refused.{Refused}
use Rattle.step_core.specs.declared.event.Refused.TheVariants.{OutOfMemory, NoView, SameView, NoState, FixedState}
use Rattle.step_core.specs.declared.event.Refused.TheVariants.{BadChoice, NotFrom, NotRaised, TooHigh, SameWord}
use Rattle.step_core.specs.Word.{value_in, choice_in, value_at}
use Rattle.fixed_bellman.specs.Given.{IsFree, IsGivenBy}
use Rattle.step_core.specs.Configuration.{Configuration, view_of, seen_by}
use Rattle.step_core.specs.Events.{IsLive, Raises, Lawful, on_side, is_bad_choice, given_by, unless_there}
use Rattle.step_core.specs.Events.{unless_raised, reasons, first_of, Answers}
use Rattle.fixed_bellman.proofs.Tables.{free_step, IsGivenBy-below}

-- the first reason does not hold
skips : (holds : Bool) (reason : Refused) (rest : Option Refused) → holds ≡ false
    → (if holds then Some reason else rest) ≡ rest
skips true reason rest fails = absurd (true≢false fails)
skips false reason rest fails = refl

record Skipped (holds : Bool) (rest : Option Refused) : Type 0 where
  fails : holds ≡ false
  none : rest ≡ None

skipped : (holds : Bool) (reason : Refused) (rest : Option Refused) → (if holds then Some reason else rest) ≡ None
    → Skipped holds rest
skipped true reason rest none = absurd (none-some reason (sym none))
skipped false reason rest none = record { fails = refl; none = none }

is_none-live : (view : Option (List ℕ)) → IsSome view → is_none view ≡ false
is_none-live None live = absurd (true≢false (sym live))
is_none-live (Some seen) live = refl

live-is_none : (view : Option (List ℕ)) → is_none view ≡ false → IsSome view
live-is_none None fails = absurd (true≢false fails)
live-is_none (Some seen) fails = refl

false-not : (a : Bool) → not a ≡ false → a ≡ true
false-not true h = refl
false-not false h = absurd (true≢false h)

within : (n state : ℕ) → state < n → nat_le n state ≡ false
within n state inside = grind (arith, nat_tests)

inside-of : (n state : ℕ) → nat_le n state ≡ false → state < n
inside-of n state fails = grind (arith, nat_tests)

below-false : (x y : ℕ) → y ≤ x → nat_lt x y ≡ false
below-false x y h = grind (arith, nat_tests)

false-below : (x y : ℕ) → nat_lt x y ≡ false → y ≤ x
false-below x y h = grind (arith, nat_tests)

-- the view is live and the state is there
pub there-none : (w : Configuration) (view state : ℕ) (others : List (Bool × Refused)) → IsLive w view
    → state < states w.question → first_of (unless_there w view state others) ≡ first_of others
there-none w view state others live inside =
    skips (is_none (view_of w view)) NoView _ (is_none-live (view_of w view) live)
    ∙ skips (nat_le (states w.question) state) NoState (first_of others) (within (states w.question) state inside)

record There (w : Configuration) (view state : ℕ) (others : List (Bool × Refused)) : Type 0 where
  live : IsLive w view
  inside : state < states w.question
  none : first_of others ≡ None

none-there : (w : Configuration) (view state : ℕ) (others : List (Bool × Refused))
    → first_of (unless_there w view state others) ≡ None → There w view state others
none-there w view state others none =
    let a = skipped (is_none (view_of w view)) NoView _ none in
    let b = skipped (nat_le (states w.question) state) NoState (first_of others) a.none in
    record {
      live = live-is_none (view_of w view) a.fails;
      inside = inside-of (states w.question) state b.fails;
      none = b.none;
    }

-- what gives a value, by tests
bad_choice-given : (q : Query) (table : ℕ → ℕ) (s value choice : ℕ) (side : Side)
    → side_at q s ≡ side → IsGivenBy q table s value choice
    → on_side side (nat_le (length (choices_of q.game s)) choice) (not (choice == 0)) ≡ false
bad_choice-given q table s value choice Max is given =
    within (length (choices_of q.game s)) choice (given.greatest is).0
bad_choice-given q table s value choice Min is given = not_from_true (choice == 0) (eq-eqb choice 0 (given.least is).0)

too_high-given : (q : Query) (table : ℕ → ℕ) (s value choice : ℕ) (side : Side)
    → side_at q s ≡ side → IsQuery q → s < states q → IsFree q s → IsGivenBy q table s value choice
    → nat_lt (on_side side (down_value table (choice_of q.game s choice)) (down_step q table s)) value ≡ false
too_high-given q table s value choice Max is h inside free given = below-false _ value (given.greatest is).1
too_high-given q table s value choice Min is h inside free given =
    below-false _ value (IsGivenBy-below q table s value choice h inside free given)

pub IsGivenBy-tests : (q : Query) (table : ℕ → ℕ) (s value choice : ℕ) (side : Side) → side_at q s ≡ side
    → IsFree q s → on_side side (nat_le (length (choices_of q.game s)) choice) (not (choice == 0)) ≡ false
    → nat_lt (on_side side (down_value table (choice_of q.game s choice)) (down_step q table s)) value ≡ false
    → IsGivenBy q table s value choice
IsGivenBy-tests q table s value choice Max is free good low = record {
  greatest = λ _. (inside-of (length (choices_of q.game s)) choice good, false-below _ value low);
  least = λ other. let apart : Max ≡ Min = sym is ∙ other in absurd (cc);
}
IsGivenBy-tests q table s value choice Min is free good low = record {
  greatest = λ other. let apart : Min ≡ Max = sym is ∙ other in absurd (cc);
  least = λ _.
      let below : value ≤ down_step q table s = false-below _ value low in
      let step = free_step q table s free in
      let least =
      ap (λ side. Rattle.game_model.specs.Values.optimum side (down_value table) (choices_of q.game s)) is in (
        eqb-true choice 0 (false-not (choice == 0) good),
        λ c in_range. omega (
          arith,
          below,
          step,
          least,
          optimum-below (down_value table) (choices_of q.game s) c no_distribution in_range,
        ),
      );
}

abbrev pub last : Configuration → ℕ → ℕ → ℕ → List (Bool × Refused)
last w view state to =
    (nat_lt (given_by w.question (value_at (seen_by w view)) state (choice_in to)) (value_in to), TooHigh) ∷ []

Won-none : (w : Configuration) (view state from to : ℕ) → IsQuery w.question → Raises w view state from to
    → first_of (reasons w (Won view state from to)) ≡ None
Won-none w view state from to h r =
    let q = w.question in
    let table : ℕ → ℕ = value_at (seen_by w view) in
    there-none w view state (unless_raised w state from to (last w view state to)) r.live r.inside
    ∙ skips (is_goal q state || is_dead q state) FixedState _ (or_from _ _ r.free.0 r.free.1)
    ∙ skips (is_bad_choice q state (choice_in to)) BadChoice _
    (bad_choice-given q table state (value_in to) (choice_in to) (side_at q state) refl r.given)
    ∙ skips (not (slice_index w.words state == from)) NotFrom _ (not_from_true _ (eq-eqb _ _ r.is_from))
    ∙ skips (nat_le (value_in to) (value_in from)) NotRaised _ (within (value_in to) (value_in from) r.raised)
    ∙ skips (nat_lt (given_by q table state (choice_in to)) (value_in to)) TooHigh None
    (too_high-given q table state (value_in to) (choice_in to) (side_at q state) refl h r.inside r.free r.given)

none-Won : (w : Configuration) (view state from to : ℕ) → first_of (reasons w (Won view state from to)) ≡ None
    → Raises w view state from to
none-Won w view state from to none =
    let q = w.question in
    let table : ℕ → ℕ = value_at (seen_by w view) in
    let there = none-there w view state (unless_raised w state from to (last w view state to)) none in
    let fixed = skipped (is_goal q state || is_dead q state) FixedState _ there.none in
    let bad = skipped (is_bad_choice q state (choice_in to)) BadChoice _ fixed.none in
    let not_from = skipped (not (slice_index w.words state == from)) NotFrom _ bad.none in
    let not_raised = skipped (nat_le (value_in to) (value_in from)) NotRaised _ not_from.none in
    let high = skipped (nat_lt (given_by q table state (choice_in to)) (value_in to)) TooHigh None not_raised.none in
    let free = or_parts _ _ fixed.fails in
    record {
      live = there.live;
      inside = there.inside;
      free = free;
      is_from = eqb-true _ _ (false-not _ not_from.fails);
      raised = inside-of (value_in to) (value_in from) not_raised.fails;
      given = IsGivenBy-tests q table state (value_in to) (choice_in to)
          (side_at q state) refl free bad.fails high.fails;
    }

-- the tests of a won exchange, in their order
module _ (w : Configuration) (view state from to : ℕ) (live : IsLive w view)
    (inside : state < states w.question) (raised : (others : List (Bool × Refused))
    → first_of (unless_raised w state from to others) ≡ first_of others) where
  pub high-told : given_by w.question (value_at (seen_by w view)) state (choice_in to) < value_in to
      → first_of (reasons w (Won view state from to)) ≡ Some TooHigh
  high-told high =
      let test : nat_lt (given_by w.question (value_at (seen_by w view)) state (choice_in to)) (value_in to) ≡ true =
      grind (arith, nat_tests) in
      there-none w view state (unless_raised w state from to (last w view state to)) live inside
      ∙ raised (last w view state to) ∙ ap (λ holds. if holds then Some TooHigh else None) test

  pub none-told : value_in to ≤ given_by w.question (value_at (seen_by w view)) state (choice_in to)
      → first_of (reasons w (Won view state from to)) ≡ None
  none-told low =
      there-none w view state (unless_raised w state from to (last w view state to)) live inside
      ∙ raised (last w view state to)
      ∙ skips (nat_lt (given_by w.question (value_at (seen_by w view)) state (choice_in to)) (value_in to)) TooHigh None
      (below-false _ (value_in to) low)

  pub raises-told : value_in to ≤ given_by w.question (value_at (seen_by w view)) state (choice_in to)
      → Raises w view state (slice_index w.words state) to
  raises-told low =
      let r : Raises w view state from to = none-Won w view state from to (none-told low) in
      subst (λ n. Raises w view state n to) (sym r.is_from) r

-- of a lawful event there is no reason
pub Lawful-none : (w : Configuration) (event : Event) → IsQuery w.question → Lawful w event
    → first_of (reasons w event) ≡ None
Lawful-none w (Load view state) h lawful = there-none w view state [] lawful.0 lawful.1
Lawful-none w (Won view state from to) h lawful = Won-none w view state from to h lawful
Lawful-none w (Lost view state) h lawful = there-none w view state
    ((slice_index w.words state == slice_index (seen_by w view) state, SameWord) ∷ []) lawful.0 lawful.1
    ∙ skips (slice_index w.words state == slice_index (seen_by w view) state) SameWord None (ne_eqb _ _ lawful.2)
Lawful-none w (Split view) h lawful =
    skips (is_none (view_of w view)) NoView None (is_none-live (view_of w view) lawful)
Lawful-none w (Join view other) h lawful =
    skips (is_none (view_of w view) || is_none (view_of w other)) NoView _
    (or_from _ _ (is_none-live (view_of w view) lawful.0) (is_none-live (view_of w other) lawful.1))
    ∙ skips (view == other) SameView None (ne_eqb view other lawful.2)

-- where there is no reason an event is lawful
pub none-Lawful : (w : Configuration) (event : Event) → first_of (reasons w event) ≡ None → Lawful w event
none-Lawful w (Load view state) none = let there = none-there w view state [] none in (there.live, there.inside)
none-Lawful w (Won view state from to) none = none-Won w view state from to none
none-Lawful w (Lost view state) none =
    let there =
    none-there w view state ((slice_index w.words state == slice_index (seen_by w view) state, SameWord) ∷ []) none in
    let same = skipped (slice_index w.words state == slice_index (seen_by w view) state) SameWord None there.none in
    (there.live, there.inside, eqb-false _ _ same.fails)
none-Lawful w (Split view) none =
    live-is_none (view_of w view) (skipped (is_none (view_of w view)) NoView None none).fails
none-Lawful w (Join view other) none =
    let spent = skipped (is_none (view_of w view) || is_none (view_of w other)) NoView _ none in
    let same = skipped (view == other) SameView None spent.none in
    let live = or_parts _ _ spent.fails in
    (live-is_none (view_of w view) live.0, live-is_none (view_of w other) live.1, eqb-false view other same.fails)

-- what `apply` answers
pub answer-lawful : (w : Configuration) (event : Event) (answer : Result (Unit {0}) Refused)
    → Answers answer (first_of (reasons w event)) → OnOk answer (Lawful w event)
answer-lawful w event (Ok _) said = none-Lawful w event said
answer-lawful w event (Err refused) said = tt

pub answer-unlawful : (w : Configuration) (event : Event) (answer : Result (Unit {0}) Refused)
    → IsQuery w.question → Answers answer (first_of (reasons w event))
    → IfErr answer (λ refused. (refused ≡ OutOfMemory) ⊎ (Lawful w event → ⊥))
answer-unlawful w event (Ok _) h said = tt
answer-unlawful w event (Err refused) h said = elim said [
  | inl memory ↦ inl memory
  | inr reason ↦ inr (λ lawful. none-some refused (sym (Lawful-none w event h lawful) ∙ reason))
]

-- what a choice gives, read from tables that agree
pub given-max : (p q : Query) (t u : ℕ → ℕ) (s c r : ℕ) → p ≡ q → t ≡ u → Max ≡ side_at p s
    → r ≡ down_value t (choice_of p.game s c) → r ≡ given_by q u s c
given-max p q t u s c r same tables is read =
    let is' : Max ≡ side_at q s = is ∙ ap (λ (x : Query). side_at x s) same in
    read ∙ (λ e. down_value (tables e) (choice_of (same e).game s c))
    ∙ ap (λ (side : Side). on_side side (down_value u (choice_of q.game s c)) (down_step q u s)) is'

pub given-min : (p q : Query) (t u : ℕ → ℕ) (s c r : ℕ) → p ≡ q → t ≡ u → Min ≡ side_at p s → r ≡ down_step p t s
    → r ≡ given_by q u s c
given-min p q t u s c r same tables is read =
    let is' : Min ≡ side_at q s = is ∙ ap (λ (x : Query). side_at x s) same in
    read ∙ (λ e. down_step (same e) (tables e) s)
    ∙ ap (λ (side : Side). on_side side (down_value u (choice_of q.game s c)) (down_step q u s)) is'
