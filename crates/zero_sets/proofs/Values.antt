-- Members of the attractor have positive values, and outside it all values are 0.
use Rattle.std.proofs.Common.{◌≡◌, ℕ, zero, suc, ◌*◌, ◌/◌, ◌^◌, ◌<◌, ◌≤◌, Bool, true, false, List, length, map, get_or}
use Rattle.std.proofs.Common.{arith, refl, sym, ◌∙◌, subst, sum_by, inl, inr, not}
use Rattle.std.specs.List.{All}
use Rattle.std.specs.Prelude.{slice_index_or, slice_set}
use Rattle.std.specs.Bool.{if◌then◌else◌}
use Rattle.std.proofs.lemmas.Bool.{cases_eq}
use Rattle.std.proofs.lemmas.List.{get_or-set_other, get_or-map, length-map}
use Rattle.std.proofs.Math.Nat.{one-le-pow, one-le-mul}
use Rattle.game_model.specs.declared.game.Edge.{Edge}
use Rattle.game_model.specs.declared.game.Side.{Side}
use Rattle.game_model.specs.declared.game.Side.TheVariants.{Max, Min}
use Rattle.game_model.specs.Game.{Distribution, no_distribution, no_edge, choices_of, choice_of}
use Rattle.game_model.specs.Query.{Query, IsQuery, states, is_goal, is_dead, side_at}
use Rattle.game_model.specs.Values.{optimum, weighted_sum, denominator, numerator, numerator_of}
use Rattle.game_model.specs.Dual.{IsZeroSet}
use Rattle.game_model.proofs.Choices.{IsChoiceOf, AreChoicesOf, AreChoicesOf-choices_of, denominator-pos}
use Rattle.game_model.proofs.Best.{optimum-most, optimum-below, optimum-each, weighted_sum-most}
use Rattle.game_model.proofs.Rises.{numerator_of-rises}
use Rattle.game_laws.proofs.Positive.{optimum-positive, marked-at-least, scaled-pos}
use Rattle.attractors.specs.Attractor.{meets, attracts, is_attracted, dead_excluded, Grew, from_goals, with_state}
use Rattle.attractors.specs.Attractor.{IsAttractor}
use Rattle.attractors.proofs.Tests.{any-place, any-none, all-each, all-place}
use Rattle.attractors.proofs.Searching.{Grew-goals}

-- after some number of steps each member has a positive value
record IsReached (q : Query) (set : List Bool) : Type 0 where
  horizon : ℕ
  positive : (s : ℕ) → s < states q → slice_index_or set s false ≡ true → 1 ≤ numerator q horizon s

-- a choice that meets a set of positive states is positive
choice-positive : (q : Query) (set : List Bool) (k : ℕ) (m : Distribution) → 0 < denominator q.game
    → IsChoiceOf q.game m → ((s : ℕ) → s < states q → slice_index_or set s false ≡ true → 1 ≤ numerator q k s)
    → meets set m ≡ true → 1 ≤ denominator q.game / m.total * weighted_sum (numerator q k) m.edges
choice-positive q set k m positive fits reached h =
    let one : (i : ℕ) × (i < length m.edges) × (slice_index_or set (get_or m.edges i no_edge).to false ≡ true) =
    any-place (λ (e : Edge). slice_index_or set e.to false) m.edges no_edge h in
    scaled-pos q.game m (numerator q k) one.0 positive fits one.1
    (reached (get_or m.edges one.0 no_edge).to (fits.inside one.0 no_edge one.1) one.2)

-- and so is the optimum of a side that is attracted
side-positive : (q : Query) (s k : ℕ) (set : List Bool) (side : Side) → side_at q s ≡ side
    → AreChoicesOf q.game (choices_of q.game) → 0 < denominator q.game → s < states q
    → ((t : ℕ) → t < states q → slice_index_or set t false ≡ true → 1 ≤ numerator q k t)
    → attracts side (dead_excluded q) set (choices_of q.game s) ≡ true → 1 ≤ optimum (side_at q s)
    (λ m. denominator q.game / m.total * weighted_sum (numerator q k) m.edges) (choices_of q.game s)
side-positive q s k set Max is_side chosen positive inside reached h =
    let f : Distribution → ℕ = λ m. denominator q.game / m.total * weighted_sum (numerator q k) m.edges in
    let one : (c : ℕ) × (c < length (choices_of q.game s)) × (meets set (choice_of q.game s c) ≡ true) =
    any-place (meets set) (choices_of q.game s) no_distribution h in
    let here : 1 ≤ f (choice_of q.game s one.0) = choice-positive q set k (choice_of q.game s one.0) positive
    (chosen.each s one.0 no_distribution one.1) reached one.2 in
    let most : f (choice_of q.game s one.0) ≤ optimum Max f (choices_of q.game s) =
    optimum-each f (choices_of q.game s) one.0 no_distribution one.1 in
    subst (λ side. 1 ≤ optimum side f (choices_of q.game s)) (sym is_side) (omega (arith, here, most))
side-positive q s k set Min is_side chosen positive inside reached h =
    let f : Distribution → ℕ = λ m. denominator q.game / m.total * weighted_sum (numerator q k) m.edges in
    optimum-positive q s f (choices_of q.game s) (chosen.some s inside)
    (λ c d l. choice-positive q set k (get_or (choices_of q.game s) c d) positive (chosen.each s c d l) reached
    (all-each (meets set) (choices_of q.game s) h c d l))

-- a state that is attracted has a positive value one step later
attracted-positive : (q : Query) (set : List Bool) (k s : ℕ) → IsQuery q → s < states q
    → ((t : ℕ) → t < states q → slice_index_or set t false ≡ true → 1 ≤ numerator q k t) → is_dead q s ≡ false
    → is_attracted q (dead_excluded q) set s ≡ true → 1 ≤ numerator q (suc k) s
unfolding numerator_of
attracted-positive q set k s posed inside reached alive drawn =
    marked-at-least (is_goal q s) (is_dead q s) (denominator q.game ^ suc k) (optimum (side_at q s)
    (λ m. denominator q.game / m.total * weighted_sum (numerator q k) m.edges) (choices_of q.game s))
    (one-le-pow (suc k) (denominator q.game) (denominator-pos q.game posed.game)) alive
    (λ no_goal. side-positive q s k set (side_at q s) refl (AreChoicesOf-choices_of q.game posed.game)
    (denominator-pos q.game posed.game) inside reached drawn)

-- a positive value stays positive
later-positive : (q : Query) (k s : ℕ) → IsQuery q → 1 ≤ numerator q k s → 1 ≤ numerator q (suc k) s
later-positive q k s posed h =
    let product : 1 ≤ denominator q.game * numerator q k s = one-le-mul (denominator-pos q.game posed.game) h in
    omega (arith, product, numerator_of-rises q (choices_of q.game) k s)

-- a set stays reached when a state joins that it attracts
IsReached-add : (q : Query) (set : List Bool) (i : ℕ) → IsQuery q → i < states q → IsReached q set → is_dead q i ≡ false
    → is_attracted q (dead_excluded q) set i ≡ true → IsReached q (slice_set set i true)
IsReached-add q set i posed here reached alive drawn = record {
  horizon = suc reached.horizon;
  positive = λ s inside member. elim (cases_eq s i) [
    | inl same ↦ subst (λ t. 1 ≤ numerator q (suc reached.horizon) t) (sym same)
        (attracted-positive q set reached.horizon i posed here reached.positive alive drawn)
    | inr other ↦ later-positive q reached.horizon s posed
        (reached.positive s inside (sym (get_or-set_other set i s true false other) ∙ member))
  ];
}

goal-positive : (goal : Bool) → goal ≡ true → 1 ≤ (if goal then 1 else 0)
goal-positive true h = omega arith
goal-positive false h = absurd (cc)

-- so a set that grew is reached
IsReached-grown : (q : Query) (set : List Bool) → IsQuery q → Grew q (dead_excluded q) set → IsReached q set
unfolding numerator_of
IsReached-grown q _ posed (from_goals set goals) = record {
  horizon = 0;
  positive = λ s inside member. goal-positive (is_goal q s) (sym (goals.each s inside) ∙ member);
}
IsReached-grown q _ posed (with_state set s grew inside alive drawn) =
    IsReached-add q set s posed inside (IsReached-grown q set posed grew) alive drawn

-- a sum over a table that is 0 at each successor
weighted_sum-none : (v : ℕ → ℕ) (edges : List Edge) → All (λ e. v e.to ≡ 0) edges → weighted_sum v edges ≡ 0
weighted_sum-none v edges h =
    let most : weighted_sum v edges ≤ sum_by (λ e. e.weight) edges * 0 =
    weighted_sum-most v 0 edges (λ i d l. omega (arith, h i d l)) in
    omega (arith, most)

-- a choice that does not meet the set leads to states of value 0 alone
choice-none : (q : Query) (set : List Bool) (k : ℕ) (m : Distribution) → IsChoiceOf q.game m
    → ((t : ℕ) → t < states q → slice_index_or set t false ≡ false → numerator q k t ≡ 0) → meets set m ≡ false
    → denominator q.game / m.total * weighted_sum (numerator q k) m.edges ≡ 0
choice-none q set k m fits none h =
    let out : All (λ (e : Edge). slice_index_or set e.to false ≡ false) m.edges =
    any-none (λ (e : Edge). slice_index_or set e.to false) m.edges h in
    let nothing : weighted_sum (numerator q k) m.edges ≡ 0 =
    weighted_sum-none (numerator q k) m.edges
    (λ i d l. none (get_or m.edges i d).to (fits.inside i d l) (out i d l)) in
    rw nothing (omega arith)

-- the optimum of a side that is not attracted is 0
side-none : (q : Query) (s k : ℕ) (set : List Bool) (side : Side) → AreChoicesOf q.game (choices_of q.game)
    → ((t : ℕ) → t < states q → slice_index_or set t false ≡ false → numerator q k t ≡ 0)
    → attracts side (dead_excluded q) set (choices_of q.game s) ≡ false
    → optimum side (λ m. denominator q.game / m.total * weighted_sum (numerator q k) m.edges) (choices_of q.game s) ≡ 0
side-none q s k set Max chosen none h =
    let f : Distribution → ℕ = λ m. denominator q.game / m.total * weighted_sum (numerator q k) m.edges in
    let unmet : All (λ m. meets set m ≡ false) (choices_of q.game s) = any-none (meets set) (choices_of q.game s) h in
    let each : All (λ m. f m ≤ 0) (choices_of q.game s) = λ c d l.
    omega (
      arith,
      choice-none q set k (get_or (choices_of q.game s) c d) (chosen.each s c d l) none (unmet c d l),
    ) in
    omega (arith, optimum-most Max f 0 (choices_of q.game s) each)
side-none q s k set Min chosen none h =
    let f : Distribution → ℕ = λ m. denominator q.game / m.total * weighted_sum (numerator q k) m.edges in
    let one : (c : ℕ) × (c < length (choices_of q.game s)) × (meets set (choice_of q.game s c) ≡ false) =
    all-place (meets set) (choices_of q.game s) no_distribution h in
    let here : f (choice_of q.game s one.0) ≡ 0 = choice-none q set k (choice_of q.game s one.0)
    (chosen.each s one.0 no_distribution one.1) none one.2 in
    omega (arith, here, optimum-below f (choices_of q.game s) one.0 no_distribution one.1)

opening-none : (goal : Bool) → goal ≡ false → ◌≡◌ {A = ℕ} (if goal then 1 else 0) 0
opening-none goal h = rw h refl

step-none : (goal dead : Bool) (top x : ℕ) → goal ≡ false → (dead ≡ false → x ≡ 0)
    → (if goal then top else (if dead then 0 else x)) ≡ 0
step-none true dead top x h k = absurd (cc)
step-none false true top x h k = refl
step-none false false top x h k = k refl

-- outside a set that has the goals and attracts no more every k-step value is 0
closed-none : (q : Query) (set : List Bool) → AreChoicesOf q.game (choices_of q.game)
    → ((s : ℕ) → s < states q → slice_index_or set s false ≡ false → is_goal q s ≡ false) → ((s : ℕ) → s < states q
    → slice_index_or set s false ≡ false → is_dead q s ≡ false → is_attracted q (dead_excluded q) set s ≡ false)
    → (k s : ℕ) → s < states q → slice_index_or set s false ≡ false → numerator q k s ≡ 0
unfolding numerator_of
closed-none q set chosen others closed zero s inside out = opening-none (is_goal q s) (others s inside out)
closed-none q set chosen others closed (suc k) s inside out =
    step-none (is_goal q s) (is_dead q s) (denominator q.game ^ suc k) _ (others s inside out)
    (λ alive. side-none q s k set (side_at q s) chosen
    (λ t within left. closed-none q set chosen others closed k t within left) (closed s inside out alive))

not-goal : (goal member : Bool) → (goal ≡ true → member ≡ true) → member ≡ false → goal ≡ false
not-goal true member h out = let in_ : member ≡ true = h refl in absurd (cc)
not-goal false member h out = refl

not-true : (b : Bool) → not b ≡ true → b ≡ false
not-true true h = absurd (cc)
not-true false h = refl

not-false : (b : Bool) → not b ≡ false → b ≡ true
not-false true h = refl
not-false false h = absurd (cc)

-- the complement of the attractor is the zero set
pub IsZeroSet-complement : (q : Query) (set : List Bool) → IsQuery q → IsAttractor q (dead_excluded q) set
    → IsZeroSet q (map not set)
IsZeroSet-complement q set posed attractor =
    let reached : IsReached q set = IsReached-grown q set posed attractor.grew in
    let others : (s : ℕ) → s < states q → slice_index_or set s false ≡ false → is_goal q s ≡ false =
    λ s inside out. not-goal (is_goal q s) (slice_index_or set s false)
    (Grew-goals q (dead_excluded q) set attractor.grew s inside) out in
    let at : (s : ℕ) → s < states q → slice_index_or (map not set) s false ≡ not (slice_index_or set s false) =
    λ s inside. get_or-map not set s false false (omega (arith, attractor.many)) in
    record {
      as_many = length-map set not ∙ attractor.many;
      marked = λ s inside marked k. closed-none q set (AreChoicesOf-choices_of q.game posed.game) others
          attractor.closed k s inside (not-true (slice_index_or set s false) (sym (at s inside) ∙ marked));
      unmarked = λ s inside unmarked. (
        reached.horizon,
        reached.positive s inside (not-false (slice_index_or set s false) (sym (at s inside) ∙ unmarked)),
      );
    }
