-- A transition behind all others.
use Rattle.std.proofs.Common.{◌≡◌, ◌∙◌, ◌<◌, ◌≤◌, ℕ, suc, ◌+◌, ◌*◌, ◌&&◌, ◌==◌, true, false, cond, List, [], ◌∷◌, ◌++◌}
use Rattle.std.proofs.Common.{length, map, refl, ap, arith}
use Rattle.std.proofs.lemmas.Bool.Decides.{nat_tests}
use Rattle.std.proofs.lemmas.List.{length_push, length-map, map-append}
use Rattle.std.proofs.lemmas.List.Elements.{All-weaker, filter-append}
use Rattle.std.specs.List.{All}
use Rattle.distributions.specs.declared.choice.Part.{Part}
use Rattle.transition_lines.specs.Limits.{most_stated_choices}
use Rattle.transition_lines.specs.declared.line.Transition.{Transition}
use Rattle.transition_lines.specs.Lines.{is_of}
use Rattle.transition_lines.specs.Choices.{transitions_of, part_of, parts_of}
use Rattle.transition_lines.specs.Order.{From, Rises, IsWithin, place_of, transition_place}
use Rattle.tra_reader.specs.inside.GrowingGames.{NoneBetween}
use Rattle.transition_lines.proofs.Ends.{AreSmall, small_more}
use Rattle.tra_reader.proofs.Stays.{same_other}

From-push : (q : ℕ) (ts : List Transition) (t : Transition) → From transition_place q ts → q ≤ transition_place t
    → From transition_place q (ts ++ t ∷ [])
From-push q [] t from h = (h, tt)
From-push q (x ∷ ts) t from h = (from.0, From-push q ts t from.1 h)

-- transitions rise still with one behind all of them
pub rises-push : (ts : List Transition) (t : Transition) → Rises transition_place ts
    → All (λ x. transition_place x ≤ transition_place t) ts → Rises transition_place (ts ++ t ∷ [])
rises-push [] t rises upto = (tt, tt)
rises-push (x ∷ ts) t rises upto = (
  From-push (transition_place x) ts t rises.0 (upto 0 x (omega arith)),
  rises-push ts t rises.1 (λ i d h. upto (suc i) d (omega arith)),
)

pub this_choice : (a c i j : ℕ) → 4000000 * a + c ≡ 4000000 * i + j → c < 4000000 → j < 4000000
    → ((a == i) && (c == j)) ≡ true
this_choice a c i j e h g = grind (arith, nat_tests)

-- the transition is the last of its choice
pub same_this : (ts : List Transition) (t : Transition) (i j : ℕ) → is_of i j t ≡ true
    → parts_of (ts ++ t ∷ []) i j ≡ parts_of ts i j ++ part_of t ∷ []
same_this ts t i j e =
    ap (λ us. map part_of us)
    (filter-append (is_of i j) ts (t ∷ []) ∙ ap (λ b. transitions_of ts i j ++ cond b (t ∷ []) []) e)
    ∙ map-append part_of (transitions_of ts i j) (t ∷ [])

higher_test : (a c i j : ℕ) → 4000000 * a + c < 4000000 * i + j → c < 4000000 → ((a == i) && (c == j)) ≡ false
higher_test a c i j h g = grind (arith, nat_tests)

pub above_test : (a c i j : ℕ) → 4000000 * i + j < 4000000 * a + c → j < 4000000 → ((a == i) && (c == j)) ≡ false
above_test a c i j h g = grind (arith, nat_tests)

-- no transition stands at a place above all
pub none_above : (ts : List Transition) (p i j : ℕ) → AreSmall ts → All (λ t. transition_place t ≤ p) ts
    → p < place_of i j → transitions_of ts i j ≡ []
none_above [] p i j small upto h = refl
none_above (t ∷ ts) p i j small upto h =
    ap (λ b. cond b (t ∷ transitions_of ts i j) (transitions_of ts i j))
    (higher_test t.source t.choice i j (omega (arith, upto 0 t (omega arith), h)) (small 0 t (omega arith)))
    ∙ none_above ts p i j (small_more t ts small) (λ k d g. upto (suc k) d (omega arith)) h

-- nothing stands between the choice under way and a place behind all
pub none_behind : (ts : List Transition) (t : Transition) (p : ℕ) → AreSmall ts → All (λ x. transition_place x ≤ p) ts
    → t.choice < most_stated_choices → NoneBetween (ts ++ t ∷ []) (p + 1) (transition_place t)
none_behind ts t p small upto h = λ i j low le lt.
    same_other ts t i j (above_test t.source t.choice i j lt low) ∙ none_above ts p i j small upto (omega (arith, le))

pub last_there : (ts : List Transition) (t : Transition) → t.choice < most_stated_choices
    → 0 < length (transitions_of (ts ++ t ∷ []) t.source t.choice)
last_there ts t small =
    let this : is_of t.source t.choice t ≡ true = this_choice t.source t.choice t.source t.choice refl small small in
    omega (
      arith,
      ap (λ (ps : List Part). length ps) (same_this ts t t.source t.choice this),
      length_push (parts_of ts t.source t.choice) (part_of t),
      length-map (transitions_of (ts ++ t ∷ []) t.source t.choice) part_of,
    )

pub small_of : (n : ℕ) (ts : List Transition) → All (IsWithin n) ts → AreSmall ts
small_of n ts within = All-weaker (IsWithin n) (λ x. x.choice < most_stated_choices) (λ x w. w.choice_in) ts within

-- nothing stands behind the choice under way
pub none_behind_all : (ts : List Transition) (p to : ℕ) → AreSmall ts → All (λ x. transition_place x ≤ p) ts
    → NoneBetween ts (p + 1) to
none_behind_all ts p to small upto = λ i j low le lt. none_above ts p i j small upto (omega (arith, le))
