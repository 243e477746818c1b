-- Every choice leads to the goal or the sink, by its first part.
use Rattle.std.proofs.Common.{◌==◌, ◌≡◌, ◌∙◌, ◌<◌, ◌≤◌, ◌+◌, ◌-◌, ◌%◌, ◌⊎◌, inl, inr, ℕ, zero, suc, cond, List, [], ◌∷◌}
use Rattle.std.proofs.Common.{refl, sym, ap, subst, map, arith}
use Rattle.std.specs.Prelude.{All, Contains}
use Rattle.std.proofs.lemmas.Bool.{cases_lt, cases_Bool, eq-eqb}
use Rattle.std.proofs.lemmas.List.Sums.{sum_by-cons}
use Rattle.std.proofs.lemmas.List.Elements.{All-nil, All-cons, All-append, All-map}
use Rattle.game_model.specs.declared.game.Edge.{Edge}
use Rattle.game_model.specs.Game.{Distribution, destinations, weight_to}
use Rattle.drawn_game.specs.Drawings.{next_draw, times}
use Rattle.drawn_game.specs.Parts.{added_up}
use Rattle.drawn_game.specs.Rules.{DrawnState, first_part, other_part, drawn_choice, drawn_state, game_of_states, stay}
use Rattle.drawn_game.specs.Rules.{goal_of, sink_of}
use Rattle.drawn_game.specs.Ends.{LeadsToEnd}
use Rattle.drawn_game.proofs.Rising.{edges_of, edges_of-some, edges_of-none, none_or_some}
use Rattle.drawn_game.proofs.Repeating.{All-times}

Contains-behind : (x to : ℕ) (xs : List ℕ) → Contains xs to → Contains (x ∷ xs) to
Contains-behind x to xs (k, inside, is) = (suc k, omega arith, is)

-- a state with some weight has its edge
edges_of-has : (weight : ℕ → ℕ) (first n to : ℕ) → 0 < weight to → first ≤ to → to < first + n
    → Contains (destinations (edges_of weight first n)) to
edges_of-has weight first zero to some low high = absurd (omega (arith, low, high))
edges_of-has weight first (suc n) to some low high = elim (cases_lt first to) [
  | inl behind ↦ passed weight first n to (edges_of-has weight (first + 1) n to some (omega arith) (omega arith))
  | inr here ↦ reached weight first n to some (omega (arith, low, here))
]
  where
    passed : (weight : ℕ → ℕ) (first n to : ℕ) → Contains (destinations (edges_of weight (first + 1) n)) to
        → Contains (destinations (edges_of weight first (suc n))) to
    passed weight first n to has =
        let P : List Edge → Type 0 = λ es. Contains (destinations es) to in
        elim (none_or_some (weight first)) [
          | inl none ↦ subst P (sym (edges_of-none weight first n none)) has
          | inr more ↦ subst P (sym (edges_of-some weight first n more))
              (Contains-behind first to (destinations (edges_of weight (first + 1) n)) has)
        ]

    reached : (weight : ℕ → ℕ) (first n to : ℕ) → 0 < weight to → first ≡ to
        → Contains (destinations (edges_of weight first (suc n))) to
    reached weight first n to some here =
        let P : List Edge → Type 0 = λ es. Contains (destinations es) to in
        let more : 0 < weight first = omega (arith, ap weight here, some) in
        subst P (sym (edges_of-some weight first n more)) (0, omega arith, here)

added_up-has : (n : ℕ) (first : Edge) (others : List Edge) → 0 < first.weight → first.to < n
    → Contains (destinations (added_up n (first ∷ others))) first.to
unfolding added_up
added_up-has n first others some inside =
    let gives : ℕ → Edge → ℕ = λ to e. cond (e.to == to) e.weight 0 in
    let weight : weight_to (first ∷ others) first.to ≡ first.weight + weight_to others first.to =
    sum_by-cons (gives first.to) first others
    ∙ ap (λ b. cond b first.weight 0 + weight_to others first.to) (eq-eqb first.to first.to refl) in
    edges_of-has (weight_to (first ∷ others)) 0 n first.to (omega (arith, weight, some)) (omega arith)
    (omega (arith, inside))

-- the first part leads to one of the two
first_part-to : (n x : ℕ) → ((first_part n x).value.to ≡ goal_of n) ⊎ ((first_part n x).value.to ≡ sink_of n)
first_part-to n x = elim (cases_Bool (next_draw x % 2 == 1)) [
  | inl odd ↦ inl (ap (λ b. cond b (goal_of n) (sink_of n)) odd)
  | inr even ↦ inr (ap (λ b. cond b (goal_of n) (sink_of n)) even)
]

drawn_choice-ends : (n : ℕ) → 3 ≤ n → (x : ℕ) → LeadsToEnd n (drawn_choice n x).value
drawn_choice-ends n h x =
    let y = next_draw x in
    let first = (first_part n y).value in
    let others = (times (1 + y % 3) (other_part n) (first_part n y).last).value in
    let P : ℕ → Type 0 = λ to. Contains (destinations (added_up n (first ∷ others))) to in
    let weight : 0 < first.weight = omega arith in
    elim (first_part-to n y) [
      | inl goal ↦ inl (subst P goal (added_up-has n first others weight (omega (arith, goal, h))))
      | inr sink ↦ inr (subst P sink (added_up-has n first others weight (omega (arith, sink, h))))
    ]

stay-ends : (n s : ℕ) → (s ≡ goal_of n) ⊎ (s ≡ sink_of n) → LeadsToEnd n (stay s)
stay-ends n s (inl goal) = inl (0, omega arith, goal)
stay-ends n s (inr sink) = inr (0, omega arith, sink)

pub game-ends : (n seed : ℕ) → 3 ≤ n
    → All (λ choices. All (LeadsToEnd n) choices) (game_of_states n (times (n - 2) (drawn_state n) seed).value).game
game-ends n seed h =
    let states = (times (n - 2) (drawn_state n) seed).value in
    let P : List Distribution → Type 0 = λ choices. All (LeadsToEnd n) choices in
    let only : (m : Distribution) → LeadsToEnd n m → P (m ∷ []) =
    λ m ends. All-cons (LeadsToEnd n) m [] ends (All-nil (LeadsToEnd n)) in
    All-append P (map (λ (s : DrawnState). s.choices) states) ((stay (goal_of n) ∷ []) ∷ (stay (sink_of n) ∷ []) ∷ [])
    (All-map P (λ (s : DrawnState). s.choices) states
    (All-times (λ (s : DrawnState). P s.choices) (drawn_state n) (λ x. All-times (LeadsToEnd n) (drawn_choice n)
    (drawn_choice-ends n h) (1 + next_draw (next_draw x) % 3) (next_draw (next_draw x))) (n - 2) seed))
    (All-cons P (stay (goal_of n) ∷ []) ((stay (sink_of n) ∷ []) ∷ [])
    (only (stay (goal_of n)) (stay-ends n (goal_of n) (inl refl)))
    (All-cons P (stay (sink_of n) ∷ []) [] (only (stay (sink_of n)) (stay-ends n (sink_of n) (inr refl))) (All-nil P)))
