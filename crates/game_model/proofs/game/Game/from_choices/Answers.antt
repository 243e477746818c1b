use Rattle.std.proofs.Common.{arith, ◌≡◌, ℕ, ◌<◌, ◌≤◌, List, length, take, map, Vec, Global, ap, ◌∙◌, sym, subst}
use Rattle.std.specs.Prelude.{All}
use Rattle.std.proofs.lemmas.List.{take_all, length-map}
use Rattle.std.proofs.lemmas.List.Elements.{All-map}
use Rattle.game_model.specs.Limits.{most_choices}
use Rattle.game_model.specs.Game.{Distribution}
use Rattle.game_model.specs.Draft.{Draft, between}
use Rattle.game_model.proofs.game.Game.from_choices.Goals as goal

-- what holds of each list holds of each state that is done
done-all : (P : List Distribution → Type 0) (lists : List (Vec Distribution Global)) (draft : Draft) (i : ℕ)
    → draft ≡ between (map (λ c. c.items) (take i lists)) → length lists ≤ i
    → All (λ c. P c.items) lists → All P draft.done
done-all P lists draft i is past all =
    subst (All P) (sym (ap (λ (d : Draft). d.done) is
    ∙ ap (λ ls. map (λ (c : Vec Distribution Global). c.items) ls) (take_all i lists past)))
    (All-map P (λ (c : Vec Distribution Global). c.items) lists all)

done-count : (lists : List (Vec Distribution Global)) (draft : Draft) (i : ℕ)
    → draft ≡ between (map (λ c. c.items) (take i lists)) → length lists ≤ i → length draft.done ≡ length lists
done-count lists draft i is past =
    ap (λ (d : Draft). length d.done) is
    ∙ ap (λ ls. length (map (λ (c : Vec Distribution Global). c.items) ls)) (take_all i lists past)
    ∙ length-map lists (λ (c : Vec Distribution Global). c.items)

pub finish-requires-clause-chosen : goal.finish-requires-clause-chosen
finish-requires-clause-chosen c =
    let past : length c.args.choices.items ≤ c.loop-state.state-index =
    omega (arith, ap length c.deref-state-items.ensures.value) in
    done-all (λ ms. 0 < length ms) c.args.choices.items c.loop-state.builder c.loop-state.state-index
    c.loop-state.invariant past c.requires.chosen

pub finish-requires-clause-bounded : goal.finish-requires-clause-bounded
finish-requires-clause-bounded c =
    let past : length c.args.choices.items ≤ c.loop-state.state-index =
    omega (arith, ap length c.deref-state-items.ensures.value) in
    done-all (λ ms. length ms ≤ most_choices) c.args.choices.items c.loop-state.builder c.loop-state.state-index
    c.loop-state.invariant past c.requires.bounded

pub finish-requires-clause-inside : goal.finish-requires-clause-inside
finish-requires-clause-inside c =
    let past : length c.args.choices.items ≤ c.loop-state.state-index =
    omega (arith, ap length c.deref-state-items.ensures.value) in
    let P : ℕ → Type 0 = λ n. All (λ ms. All (λ m. All (λ e. e.to < n) m.edges) ms) c.loop-state.builder.done in
    subst P
    (sym (done-count c.args.choices.items c.loop-state.builder c.loop-state.state-index c.loop-state.invariant past))
    (done-all (λ ms. All (λ m. All (λ e. e.to < length c.args.choices.items) m.edges) ms) c.args.choices.items
    c.loop-state.builder c.loop-state.state-index c.loop-state.invariant past c.requires.inside)
