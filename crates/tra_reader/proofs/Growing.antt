-- A game under way with one transition more.
use Rattle.std.proofs.Common.{◌≡◌, ◌∙◌, ◌<◌, ◌≤◌, ℕ, true, false, List, [], ◌∷◌, ◌++◌, length, map, refl, sym, ap, ap₂}
use Rattle.std.proofs.Common.{subst, arith}
use Rattle.std.specs.List.{All}
use Rattle.game_model.specs.Limits.{most_states}
use Rattle.game_model.specs.Draft.{Draft, no_states}
use Rattle.distributions.specs.declared.choice.Part.{Part}
use Rattle.transition_lines.specs.Limits.{most_stated_choices}
use Rattle.transition_lines.specs.declared.line.Transition.{Transition}
use Rattle.tra_reader.specs.declared.build_state.BuildState.{BuildState}
use Rattle.tra_reader.specs.declared.build_state.BuildState.TheVariants.{Builds, OutOfMemory}
use Rattle.tra_reader.specs.declared.finished_choices.FinishedChoices.{FinishedChoices}
use Rattle.transition_lines.specs.Lines.{is_of}
use Rattle.transition_lines.specs.Choices.{transitions_of, part_of, parts_of}
use Rattle.transition_lines.specs.Order.{IsWithin, place_of, transition_place}
use Rattle.tra_reader.specs.inside.GrowingGames.{AreFinished, IsMade, place_behind, AreFinishedBefore, EndsBefore}
use Rattle.tra_reader.specs.inside.GrowingGames.{GoesTo}
use Rattle.tra_reader.specs.inside.GrowingGames.{Growing, place_under_way, HoldsInOrder}
use Rattle.std.proofs.lemmas.List.Elements.{All-push, All-weaker}
use Rattle.transition_lines.proofs.Ends.{AreSmall}
use Rattle.tra_reader.proofs.Stays.{same_other, made_stays}
use Rattle.tra_reader.proofs.Behind.{rises-push, this_choice, same_this, above_test, none_above, none_behind}
use Rattle.tra_reader.proofs.Behind.{none_behind_all, last_there, small_of}

part_there : (parts : List Part) (part : Part) → parts ++ part ∷ [] ≡ [] → ⊥
part_there [] part e = cc
part_there (x ∷ parts) part e = cc

-- what every game keeps that holds some transitions
keeps_next : (game next : Growing) (n : ℕ) (ts : List Transition) (t : Transition) → HoldsInOrder game n ts
    → IsWithin n t → place_under_way game ≤ transition_place t → next.states ≡ game.states
    → next.finished.state ≡ t.source → next.finished.choice ≡ t.choice
    → next.parts ≡ parts_of (ts ++ t ∷ []) t.source t.choice → (next.parts ≡ [] → ⊥)
    → AreFinished n (ts ++ t ∷ []) next.finished → HoldsInOrder next n (ts ++ t ∷ [])
keeps_next game next n ts t is within le states state choice parts some finished =
    let place : place_under_way next ≡ transition_place t = ap₂ (λ s k. place_of s k) state choice in
    let before : All (λ x. transition_place x ≤ transition_place t) ts =
    All-weaker (λ x. transition_place x ≤ place_under_way game) (λ x. transition_place x ≤ transition_place t)
    (λ x h. omega (arith, h, le)) ts is.upto in
    record {
      states = states ∙ is.states;
      some = is.some;
      few = is.few;
      within = All-push (IsWithin n) ts t is.within within;
      order = rises-push ts t is.order before;
      upto = All-push (λ x. transition_place x ≤ place_under_way next) ts t
          (All-weaker (λ x. transition_place x ≤ transition_place t) (λ x. transition_place x ≤ place_under_way next)
          (λ x h. omega (arith, h, place)) ts before) (omega (arith, place));
      begun = λ h. record { before = ts; last = t; are = refl; there = sym place };
      none = λ e. absurd (some e);
      parts = parts ∙ sym (ap₂ (λ s k. parts_of (ts ++ t ∷ []) s k) state choice);
      state_in = omega (arith, state, within.source_in);
      choice_in = omega (arith, choice, within.choice_in);
      finished = finished;
    }

-- one transition more of the choice under way
pub holds_same : (game next : Growing) (n : ℕ) (ts : List Transition) (t : Transition) → HoldsInOrder game n ts
    → IsWithin n t → game.finished.state ≡ t.source → game.finished.choice ≡ t.choice → next.states ≡ game.states
    → next.finished ≡ game.finished → next.parts ≡ game.parts ++ part_of t ∷ [] → HoldsInOrder next n (ts ++ t ∷ [])
holds_same game next n ts t is within state choice states finished parts =
    let place : place_under_way game ≡ transition_place t = ap₂ (λ s k. place_of s k) state choice in
    let this : is_of t.source t.choice t ≡ true =
    this_choice t.source t.choice t.source t.choice refl within.choice_in within.choice_in in
    let before : game.parts ≡ parts_of ts t.source t.choice = is.parts ∙ ap₂ (λ s k. parts_of ts s k) state choice in
    let P : FinishedChoices → Type 0 = λ w. AreFinished n (ts ++ t ∷ []) w in
    keeps_next game next n ts t is within (omega (arith, place)) states
    (ap (λ (w : FinishedChoices). w.state) finished ∙ state) (ap (λ (w : FinishedChoices). w.choice) finished ∙ choice)
    (parts ∙ ap (λ ps. ps ++ part_of t ∷ []) before ∙ sym (same_this ts t t.source t.choice this))
    (λ e. part_there game.parts (part_of t) (sym parts ∙ e))
    (subst P (sym finished) (made_stays n ts t game.finished.state game.finished.choice game.finished.count
    game.finished.build_state within.choice_in (omega (arith, is.choice_in)) (omega (arith, place)) is.finished))

-- what a game sees is held
pub within_held : (game value : Growing) (n : ℕ) (ts : List Transition) (t : Transition) → game ≡ value
    → IsWithin value.states t → HoldsInOrder game n ts → IsWithin n t
within_held game value n ts t view within is =
    let P : ℕ → Type 0 = λ m. IsWithin m t in
    subst P (sym (ap (λ (g : Growing). g.states) view) ∙ is.states) within

-- the first transition of a choice behind that under way
pub holds_next : (game next : Growing) (n : ℕ) (ts : List Transition) (t : Transition) → HoldsInOrder game n ts
    → IsWithin n t → place_under_way game < transition_place t → next.states ≡ game.states
    → next.finished.state ≡ t.source → next.finished.choice ≡ t.choice → next.parts ≡ part_of t ∷ []
    → AreFinished n (ts ++ t ∷ []) next.finished
    → HoldsInOrder next n (ts ++ t ∷ [])
holds_next game next n ts t is within lt states state choice parts finished =
    let this : is_of t.source t.choice t ≡ true =
    this_choice t.source t.choice t.source t.choice refl within.choice_in within.choice_in in
    let small : AreSmall ts =
    All-weaker (IsWithin n) (λ x. x.choice < most_stated_choices) (λ x w. w.choice_in) ts is.within in
    let none : parts_of ts t.source t.choice ≡ [] =
    ap (λ us. map part_of us) (none_above ts (place_under_way game) t.source t.choice small is.upto lt) in
    keeps_next game next n ts t is within (omega (arith, lt)) states state choice
    (parts ∙ ap (λ (ps : List Part). ps ++ part_of t ∷ []) (sym none) ∙ sym (same_this ts t t.source t.choice this))
    (λ e. part_there [] (part_of t) (sym parts ∙ e))
    finished

-- the choices before the next are finished
pub finished_next : (game : Growing) (n : ℕ) (ts : List Transition) (t : Transition) (ended next : FinishedChoices)
    → HoldsInOrder game n ts → IsWithin n t → place_under_way game < transition_place t → ended.state ≡ t.source
    → EndsBefore game.parts t.source game.finished ended → GoesTo t.choice ended next
    → AreFinished n (ts ++ t ∷ []) next
finished_next game n ts t ended next is within lt state ends goes =
    let us : List Transition = ts ++ t ∷ [] in
    let small : t.choice < most_stated_choices = within.choice_in in
    let other : is_of game.finished.state game.finished.choice t ≡ false =
    above_test t.source t.choice game.finished.state game.finished.choice lt is.choice_in in
    let parts : game.parts ≡ parts_of us game.finished.state game.finished.choice =
    is.parts ∙ ap (λ vs. map part_of vs) (sym (same_other ts t game.finished.state game.finished.choice other)) in
    let finished : AreFinished n us game.finished =
    made_stays n ts t game.finished.state game.finished.choice game.finished.count
    game.finished.build_state small (omega (arith, is.choice_in)) (omega (arith, lt)) is.finished in
    let before : AreFinishedBefore n us (transition_place t) ended =
    ends n (transition_place t) us (omega (arith, within.source_in))
    (omega arith) parts (All-push (IsWithin n) ts t is.within within)
    (none_behind ts t (place_under_way game) (small_of n ts is.within) is.upto small) finished in
    let P : ℕ → Type 0 = λ s. 0 < length (transitions_of us s t.choice) in
    let Q : ℕ → Type 0 = λ s. AreFinishedBefore n us (place_of s t.choice) ended in
    goes n us (subst P (sym state) (last_there ts t small)) small (subst Q (sym state) before)

-- the finished choices are those of all states
pub record AreAll (n : ℕ) (ts : List Transition) (finished : FinishedChoices) : Type 0 where
  pub state : finished.state ≡ n
  pub choice : finished.choice ≡ 0
  pub made : AreFinished n ts finished

pub all_finished : (game : Growing) (n : ℕ) (ts : List Transition) (ended : FinishedChoices)
    → HoldsInOrder game n ts → ended.state ≡ game.states
    → ((place : ℕ) → place_under_way game < place → place_of game.states 0 ≤ place → place_behind ended ≤ place)
    → EndsBefore game.parts game.states game.finished ended → AreAll n ts ended
all_finished game n ts ended is state place ends = record {
  state = state ∙ is.states;
  choice = omega (
    arith,
    state,
    place (place_of game.states 0) (omega (arith, is.state_in, is.choice_in, is.states)) (omega arith),
  );
  made = (ends n (place_of n 0) ts (omega (arith, is.states)) (omega (arith, is.states)) is.parts is.within
      (none_behind_all ts (place_under_way game) (place_of n 0) (small_of n ts is.within) is.upto) is.finished).made;
}

-- the game without a transition
pub holds_none : (n : ℕ) (draft : Draft) (parts : List Part) → 0 < n → n ≤ most_states → draft ≡ no_states → parts ≡ []
    → HoldsInOrder (record {
      states = n;
      finished = record { state = 0; choice = 0; count = 0; build_state = Builds draft };
      parts = parts;
    }) n []
holds_none n draft parts some few empty none =
    let P : Draft → Type 0 = λ d. IsMade n [] 0 0 0 (Builds d) in
    record {
      states = refl;
      some = some;
      few = few;
      within = λ i d h. absurd (omega (arith, h));
      order = tt;
      upto = λ i d h. absurd (omega (arith, h));
      begun = λ h. absurd (omega (arith, h, ap (λ (ps : List Part). length ps) none));
      none = λ e. refl;
      parts = none;
      state_in = some;
      choice_in = omega arith;
      finished = subst P (sym empty) (
        record { full = refl; few = refl; there = λ j h. absurd (omega (arith, h)); total = refl },
        record {
          done = refl;
          under_way = refl;
          as_many = refl;
          as_many_under_way = refl;
          some = λ i d h. absurd (omega (arith, h));
          few = λ i d h. absurd (omega (arith, h));
          inside = λ i d h. absurd (omega (arith, h));
          inside_under_way = λ i d h. absurd (omega (arith, h));
        },
      );
    }

-- a game whose memory ran out holds nothing
pub holds_spent : (game next : Growing) (n : ℕ) (ts : List Transition) → HoldsInOrder game n ts
    → next.states ≡ game.states → next.finished.state < n → next.finished.choice < most_stated_choices → next.parts ≡ []
    → next.finished.build_state ≡ OutOfMemory → HoldsInOrder next n []
holds_spent game next n ts is states state choice none spent =
    let P : BuildState → Type 0 = λ p. IsMade n [] next.finished.state next.finished.choice next.finished.count p in
    record {
      states = states ∙ is.states;
      some = is.some;
      few = is.few;
      within = λ i d h. absurd (omega (arith, h));
      order = tt;
      upto = λ i d h. absurd (omega (arith, h));
      begun = λ h. absurd (omega (arith, h, ap (λ (ps : List Part). length ps) none));
      none = λ e. refl;
      parts = none;
      state_in = state;
      choice_in = choice;
      finished = subst P (sym spent) tt;
    }
