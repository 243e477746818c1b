-- Drawn games are games.
use Rattle.std.proofs.Common.{append_assoc, ◌≡◌, ◌∙◌, ◌<◌, ◌≤◌, ◌+◌, ◌-◌, ◌%◌, ℕ, List, [], ◌∷◌, ◌++◌, sym, ap, length}
use Rattle.std.proofs.Common.{map, arith}
use Rattle.std.specs.Prelude.{All}
use Rattle.std.proofs.lemmas.List.{length-map, length-append, map-append}
use Rattle.std.proofs.lemmas.List.Elements.{All-nil, All-cons, All-append, All-map}
use Rattle.game_model.specs.declared.game.Edge.{Edge}
use Rattle.game_model.specs.declared.game.Side.{Side}
use Rattle.game_model.specs.declared.game.Side.TheVariants.{Max}
use Rattle.game_model.specs.Game.{Distribution}
use Rattle.game_model.specs.Draft.{Draft, between}
use Rattle.drawn_game.specs.Drawings.{next_draw, times}
use Rattle.drawn_game.specs.Rules.{DrawnState, drawn_choice, drawn_state, game_of_states, stay, goal_of, sink_of}
use Rattle.drawn_game.proofs.Rising.{added_up-inside}
use Rattle.drawn_game.proofs.Repeating.{value-times_more, length-times, All-times}

-- the choices lead to the first n states, and there are 1 to 3 of them
pub record AreChoices (n : ℕ) (choices : List Distribution) : Type 0 where
  pub some : 0 < length choices
  pub few : length choices ≤ 3
  pub inside : All (λ m. All (λ e. e.to < n) m.edges) choices

drawn_state-choices : (n x : ℕ) → AreChoices n (drawn_state n x).value.choices
drawn_state-choices n x =
    let y = next_draw (next_draw x) in
    let count = length-times (drawn_choice n) (1 + y % 3) y in
    record {
      some = omega (arith, count);
      few = omega (arith, count);
      inside = All-times (λ (m : Distribution). All (λ e. e.to < n) m.edges) (drawn_choice n)
          (λ z. added_up-inside n _) (1 + y % 3) y;
    }

stay-choices : (n s : ℕ) → s < n → AreChoices n (stay s ∷ [])
stay-choices n s h = record {
  some = omega arith;
  few = omega arith;
  inside = All-cons (λ (m : Distribution). All (λ e. e.to < n) m.edges) (stay s) []
      (All-cons (λ (e : Edge). e.to < n) (record { to = s; weight = 1 }) [] h (All-nil (λ (e : Edge). e.to < n)))
      (All-nil (λ (m : Distribution). All (λ e. e.to < n) m.edges));
}

-- the game of n states whose first states are drawn
pub record AreOfGame (n : ℕ) (game : List (List Distribution)) : Type 0 where
  pub many : length game ≡ n
  pub each : All (AreChoices n) game

pub drawn-choices : (n seed : ℕ) → 3 ≤ n
    → AreOfGame n (game_of_states n (times (n - 2) (drawn_state n) seed).value).game
drawn-choices n seed h =
    let states = (times (n - 2) (drawn_state n) seed).value in
    record {
      many = length-append (map (λ (s : DrawnState). s.choices) states)
          ((stay (goal_of n) ∷ []) ∷ (stay (sink_of n) ∷ []) ∷ [])
          ∙ ap (λ k. k + 2) (length-map states (λ (s : DrawnState). s.choices)
          ∙ length-times (drawn_state n) (n - 2) seed) ∙ omega (arith, h);
      each = All-append (AreChoices n) (map (λ (s : DrawnState). s.choices) states)
          ((stay (goal_of n) ∷ []) ∷ (stay (sink_of n) ∷ []) ∷ [])
          (All-map (AreChoices n) (λ (s : DrawnState). s.choices) states
          (All-times (λ (s : DrawnState). AreChoices n s.choices) (drawn_state n) (drawn_state-choices n) (n - 2) seed))
          (All-cons (AreChoices n) (stay (goal_of n) ∷ []) ((stay (sink_of n) ∷ []) ∷ [])
          (stay-choices n (goal_of n) (omega (arith, h)))
          (All-cons (AreChoices n) (stay (sink_of n) ∷ []) [] (stay-choices n (sink_of n) (omega (arith, h)))
          (All-nil (AreChoices n))));
    }

-- the drawn states, and behind them the goal and the sink
pub ended : (n seed k : ℕ) (old middle new : Draft) → k ≡ n - 2
    → old ≡ record { done = map (λ (s : DrawnState). s.choices) (times k (drawn_state n) seed).value; under_way = [] }
    → middle ≡ between (old.done ++ (stay (n - 2) ∷ []) ∷ []) → new ≡ between (middle.done ++ (stay (n - 1) ∷ []) ∷ [])
    → new.done ≡ (game_of_states n (times (n - 2) (drawn_state n) seed).value).game
ended n seed k old middle new k_is old_is middle_is new_is =
    ap (λ (b : Draft). b.done) new_is
    ∙ ap (λ (b : Draft). b.done ++ (stay (n - 1) ∷ []) ∷ []) middle_is
    ∙ append_assoc old.done ((stay (n - 2) ∷ []) ∷ []) ((stay (n - 1) ∷ []) ∷ [])
    ∙ ap (λ (b : Draft). b.done ++ (stay (n - 2) ∷ []) ∷ (stay (n - 1) ∷ []) ∷ []) old_is
    ∙ ap (λ m. map (λ (s : DrawnState). s.choices) (times m (drawn_state n) seed).value ++ (stay (n - 2) ∷ [])
    ∷ (stay (n - 1) ∷ []) ∷ []) k_is

pub sides_ended : (n seed k : ℕ) (old middle new : List Side) → k ≡ n - 2
    → old ≡ map (λ (s : DrawnState). s.side) (times k (drawn_state n) seed).value → middle ≡ old ++ Max ∷ []
    → new ≡ middle ++ Max ∷ [] → new ≡ (game_of_states n (times (n - 2) (drawn_state n) seed).value).sides
sides_ended n seed k old middle new k_is old_is middle_is new_is =
    new_is
    ∙ ap (λ (ss : List Side). ss ++ Max ∷ []) middle_is
    ∙ append_assoc old (Max ∷ []) (Max ∷ [])
    ∙ ap (λ (ss : List Side). ss ++ Max ∷ Max ∷ []) old_is
    ∙ ap (λ m. map (λ (s : DrawnState). s.side) (times m (drawn_state n) seed).value ++ Max ∷ Max ∷ []) k_is

-- one state more
pub map-times_more : {X : Type 0} (view : DrawnState → X) (n k seed last : ℕ)
    → last ≡ (times k (drawn_state n) seed).last → map view (times (k + 1) (drawn_state n) seed).value
    ≡ map view (times k (drawn_state n) seed).value ++ view (drawn_state n last).value ∷ []
map-times_more view n k seed last last_is =
    ap (λ (states : List DrawnState). map view states) (value-times_more (drawn_state n) k seed)
    ∙ map-append view (times k (drawn_state n) seed).value
    ((drawn_state n (times k (drawn_state n) seed).last).value ∷ [])
    ∙ ap (λ x. map view (times k (drawn_state n) seed).value ++ view (drawn_state n x).value ∷ []) (sym last_is)
