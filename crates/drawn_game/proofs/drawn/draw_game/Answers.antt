use Rattle.std.proofs.Common.{◌≡◌, ◌∙◌, ◌≤◌, ◌<◌, ◌-◌, ◌++◌, ◌∷◌, [], List, length, sym, ap, ap₂, subst, arith, ℕ}
use Rattle.std.specs.Prelude.{All}
use Rattle.game_model.specs.declared.game.Side.{Side}
use Rattle.std.proofs.lemmas.List.Elements.{All-weaker}
use Rattle.game_model.specs.Limits.{most_choices}
use Rattle.game_model.specs.Game.{Distribution}
use Rattle.game_model.specs.Draft.{Draft, between}
use Rattle.drawn_game.specs.Drawings.{times}
use Rattle.drawn_game.specs.Rules.{DrawnState, SidedGame, drawn_state, drawn_game, game_of_states}
use Rattle.drawn_game.proofs.Repeating.{last-times_more}
use Rattle.drawn_game.proofs.Games.{AreChoices, AreOfGame, drawn-choices, ended, sides_ended, map-times_more}
use Rattle.drawn_game.proofs.drawn.draw_game.Goals as goal

pub loop-state-preserved : goal.loop-state-preserved
loop-state-preserved c =
    let n = c.args.states in
    let at = c.loop-state.invariant in
    let k = c.loop-state._state in
    let old = c.loop-state.builder in
    let pushed : c.push.new.self.items ≡ c.loop-state.sides.items ++ c.in_ok-side.side ∷ [] =
    c.in_ok-push.ensures.items in
    let side : c.in_ok-side.side ≡ (drawn_state n c.loop-state.draws).value.side = c.in_ok-side.ensures.side in
    let built : c.draw_state.new.builder ≡ between (old.done ++ (drawn_state n c.loop-state.draws).value.choices ∷ []) =
    c.in_ok-side.ensures.built in
    let last : c.draw_state.new.draws ≡ (drawn_state n c.loop-state.draws).last = c.in_ok-side.ensures.last in
    record {
      last = last ∙ ap (λ x. (drawn_state n x).last) at.last ∙ sym (last-times_more (drawn_state n) k c.args.seed);
      built = built
          ∙ ap (λ (b : Draft). between (b.done ++ (drawn_state n c.loop-state.draws).value.choices ∷ [])) at.built
          ∙ ap (λ (game : List (List Distribution)). between game)
          (sym (map-times_more (λ (s : DrawnState). s.choices) n k c.args.seed c.loop-state.draws at.last));
      sides = pushed
          ∙ ap (λ (s : Side). c.loop-state.sides.items ++ s ∷ []) side
          ∙ ap (λ (ss : List Side). ss ++ (drawn_state n c.loop-state.draws).value.side ∷ []) at.sides
          ∙ sym (map-times_more (λ (s : DrawnState). s.side) n k c.args.seed c.loop-state.draws at.last);
    }

-- what the builder holds at the end
of_game : (c : goal.In_ok-add_stay-2) → AreOfGame c.args.states c.add_stay-2.new.builder.done
of_game c =
    let n = c.args.states in
    let at = c.loop-state.invariant in
    let P : List (List Distribution) → Type 0 = λ game. AreOfGame n game in
    subst P (sym (ended n c.args.seed c.loop-state._state c.loop-state.builder c.add_stay.new.builder
    c.add_stay-2.new.builder (omega arith) at.built c.in_ok-add_stay.ensures.built c.in_ok-add_stay-2.ensures.built))
    (drawn-choices n c.args.seed c.requires.states.0)

pub finish-requires-clause-few : goal.finish-requires-clause-few
finish-requires-clause-few c = omega (arith, (of_game c).many, c.requires.states.1)

pub finish-requires-clause-chosen : goal.finish-requires-clause-chosen
finish-requires-clause-chosen c =
    All-weaker (AreChoices c.args.states) (λ (choices : List Distribution). 0 < length choices)
    (λ choices are. are.some) c.add_stay-2.new.builder.done (of_game c).each

pub finish-requires-clause-bounded : goal.finish-requires-clause-bounded
finish-requires-clause-bounded c =
    All-weaker (AreChoices c.args.states) (λ (choices : List Distribution). length choices ≤ most_choices)
    (λ choices are. omega (arith, are.few)) c.add_stay-2.new.builder.done (of_game c).each

pub finish-requires-clause-inside : goal.finish-requires-clause-inside
finish-requires-clause-inside c =
    let P : ℕ → Type 0 =
    λ n. All (λ choices. All (λ m. All (λ e. e.to < n) m.edges) choices) c.add_stay-2.new.builder.done in
    subst P (sym (of_game c).many) (All-weaker (AreChoices c.args.states)
    (λ (choices : List Distribution). All (λ m. All (λ e. e.to < c.args.states) m.edges) choices)
    (λ choices are. are.inside) c.add_stay-2.new.builder.done (of_game c).each)

-- the game at the end
finished : (c : goal.After-finish) → c.finish.result
    ≡ (game_of_states c.args.states (times (c.args.states - 2) (drawn_state c.args.states) c.args.seed).value).game
finished c =
    let at = c.loop-state.invariant in
    c.finish.ensures
    ∙ ended c.args.states c.args.seed c.loop-state._state c.loop-state.builder c.add_stay.new.builder
    c.add_stay-2.new.builder (omega arith) at.built c.in_ok-add_stay.ensures.built c.in_ok-add_stay-2.ensures.built

pub returns-clause-exact : goal.returns-clause-exact
unfolding drawn_game
returns-clause-exact c =
    let at = c.loop-state.invariant in
    let sided : List (List Distribution) → List Side → SidedGame =
    λ game sides. record { game = game; sides = sides } in
    ap₂ sided (finished c)
    (sides_ended c.args.states c.args.seed c.loop-state._state c.loop-state.sides.items c.add_stay.new.sides.items
    c.add_stay-2.new.sides.items (omega arith) at.sides c.in_ok-add_stay.ensures.sides c.in_ok-add_stay-2.ensures.sides)

pub returns-clause-many : goal.returns-clause-many
returns-clause-many c = ap (λ (game : List (List Distribution)). length game) (finished c)
    ∙ (drawn-choices c.args.states c.args.seed c.requires.states.0).many
