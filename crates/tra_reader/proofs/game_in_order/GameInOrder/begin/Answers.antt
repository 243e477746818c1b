use Rattle.std.proofs.Common.{rules, ◌≡◌, ◌∙◌, ◌<◌, List, [], ◌∷◌, ◌++◌, refl, sym, ap, subst, arith}
use Rattle.distributions.specs.declared.choice.Part.{Part}
use Rattle.transition_lines.specs.Choices.{part_of}
use Rattle.transition_lines.specs.Order.{transition_place}
use Rattle.tra_reader.specs.inside.GrowingGames.{Growing, place_under_way, EndsBefore, HoldsInOrder}
use Rattle.tra_reader.specs.inside.OfGrowing.{growing_of}
use Rattle.tra_reader.proofs.Growing.{holds_next, holds_spent, finished_next, within_held}
use Rattle.tra_reader.proofs.game_in_order.GameInOrder.begin.Goals as goal

pub invariant_of-self : goal.invariant_of-self
invariant_of-self c =
    let t = c.args.transition.now in
    let game : Growing = growing_of c.self.inside in
    let held = c.self.invariant in
    let within = within_held game _ held.n held.transitions t c.self.view_is c.requires.within held.holds in
    let state : c.go_to.new.self.state ≡ t.source = c.go_to.ensures.state ∙ c.end_before.ensures.state in
    let choice : c.go_to.new.self.choice ≡ t.choice = c.go_to.ensures.choice in
    let none : c.push.new.self.items ≡ [] = search rules in
    record {
      n = held.n;
      transitions = [];
      holds = holds_spent game _ held.n held.transitions held.holds refl (omega (arith, state, within.source_in))
          (omega (arith, choice, within.choice_in)) none refl;
    }

pub invariant_of-self-else-is_err : goal.invariant_of-self-else-is_err
invariant_of-self-else-is_err c =
    let t = c.args.transition.now in
    let game : Growing = growing_of c.self.inside in
    let held = c.self.invariant in
    let is = held.holds in
    let within = within_held game _ held.n held.transitions t c.self.view_is c.requires.within is in
    let lt : place_under_way game < transition_place t =
    omega (arith, ap (λ (g : Growing). place_under_way g) c.self.view_is, c.requires.order) in
    let P : List Part → Type 0 = λ ps. EndsBefore ps t.source c.self.inside.finished c.end_before.new.self in
    let ends = subst P c.deref.ensures.value c.end_before.ensures.made in
    let parts : c.push.new.self.items ≡ part_of t ∷ [] = search rules in
    record {
      n = held.n;
      transitions = held.transitions ++ t ∷ [];
      holds = holds_next game _ held.n held.transitions t is within lt refl
          (c.go_to.ensures.state ∙ c.end_before.ensures.state) c.go_to.ensures.choice parts
          (finished_next game held.n held.transitions t c.end_before.new.self c.go_to.new.self is within lt
          c.end_before.ensures.state ends c.go_to.ensures.made);
    }

pub returns-clause-holds : goal.returns-clause-holds
returns-clause-holds c = λ n ts value.
    let t = c.args.transition.now in
    let game : Growing = growing_of c.self.inside in
    let H : Growing → Type 0 = λ g. HoldsInOrder g n ts in
    let is : HoldsInOrder game n ts = subst H (sym c.self.view_is) value in
    let within = within_held game _ n ts t c.self.view_is c.requires.within is in
    let lt : place_under_way game < transition_place t =
    omega (arith, ap (λ (g : Growing). place_under_way g) c.self.view_is, c.requires.order) in
    let P : List Part → Type 0 = λ ps. EndsBefore ps t.source c.self.inside.finished c.end_before.new.self in
    let ends = subst P c.deref.ensures.value c.end_before.ensures.made in
    let parts : c.push.new.self.items ≡ part_of t ∷ [] = search rules in
    holds_next game _ n ts t is within lt refl
    (c.go_to.ensures.state ∙ c.end_before.ensures.state) c.go_to.ensures.choice parts
    (finished_next game n ts t c.end_before.new.self c.go_to.new.self is within lt c.end_before.ensures.state ends
    c.go_to.ensures.made)
