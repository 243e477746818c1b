use Rattle.std.proofs.Common.{rules, ◌≡◌, ◌∙◌, ◌<◌, ℕ, ◌+◌, List, [], ◌∷◌, ◌++◌, length, get_or, take, drop, sym, ap}
use Rattle.std.proofs.Common.{subst}
use Rattle.std.proofs.lemmas.List.{take_more, drop_more, take_all}
use Rattle.transition_lines.specs.declared.line.Transition.{Transition}
use Rattle.transition_lines.specs.Order.{From, Rises, transition_place}
use Rattle.tra_reader.specs.inside.GrowingGames.{HoldsInOrder}
use Rattle.tra_reader.proofs.Sorted.{from_nought}
use Rattle.tra_reader.proofs.UnderWay.{at_last}
use Rattle.tra_reader.proofs.build.build_in_order.Goals as goal

pub loop-transition-init : goal.loop-transition-init
loop-transition-init c =
    let P : ℕ → Type 0 = λ q. From transition_place q c.args.transitions.now in
    record {
      holds = c.in_ok-game.ensures.holds;
      behind = subst P (sym c.in_ok-game.ensures.place) (from_nought c.args.transitions.now);
      rises = c.requires.rises;
    }

pub loop-transition-preserved : goal.loop-transition-preserved
loop-transition-preserved c =
    let n = c.args.header.now.states in
    let ts = c.args.transitions.now in
    let i = c.loop-transition.transition-index in
    let t = c.transition-item.result in
    let within : i < length ts = search rules in
    let is : t ≡ get_or ts i t = c.transition-item.is in
    let first : drop i ts ≡ t ∷ drop (i + 1) ts =
    drop_more ts i t within ∙ ap (λ (x : Transition). x ∷ drop (i + 1) ts) (sym is) in
    let last : take (i + 1) ts ≡ take i ts ++ t ∷ [] =
    take_more ts i t within ∙ ap (λ (x : Transition). take i ts ++ x ∷ []) (sym is) in
    let R : List Transition → Type 0 = λ l. Rises transition_place l in
    let H : List Transition → Type 0 = λ l. HoldsInOrder c.add.new.self n l in
    let F : ℕ → Type 0 = λ q. From transition_place q (drop (i + 1) ts) in
    let rises = subst R first c.loop-transition.invariant.rises in
    let holds = c.in_ok-add.ensures.holds n (take i ts) c.loop-transition.invariant.holds in
    record {
      holds = subst H (sym last) holds;
      behind = subst F (at_last c.add.new.self n (take i ts) t holds) rises.0;
      rises = rises.1;
    }

pub returns : goal.returns
returns c =
    let ts = c.args.transitions.now in
    let H : List Transition → Type 0 = λ l. HoldsInOrder c.loop-transition.game c.args.header.now.states l in
    c.finish.ensures c.args.header.now.states ts
    (subst H (take_all c.loop-transition.transition-index ts (search rules)) c.loop-transition.invariant.holds)
