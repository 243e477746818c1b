use Rattle.std.proofs.Common.{rules, ◌≡◌, ◌∙◌, [], ◌∷◌, ◌++◌, refl, sym, ap, subst}
use Rattle.transition_lines.specs.Choices.{part_of}
use Rattle.tra_reader.specs.inside.GrowingGames.{Growing, HoldsInOrder}
use Rattle.tra_reader.specs.inside.OfGrowing.{growing_of}
use Rattle.tra_reader.proofs.Growing.{holds_same, within_held}
use Rattle.tra_reader.proofs.game_in_order.GameInOrder.add.Goals as goal

pub invariant_of-self-2 : goal.invariant_of-self-2
invariant_of-self-2 c =
    let t = c.args.transition.now in
    let is = c.self-2.invariant in
    let same : growing_of c.self-2.inside ≡ growing_of c.self.inside = c.self-2.view_is ∙ sym c.self.view_is in
    let state : c.self.inside.finished.state ≡ t.source = search rules in
    let choice : c.self.inside.finished.choice ≡ t.choice = search rules in
    let parts : c.push.new.self.items ≡ c.self-2.inside.parts.items ++ part_of t ∷ [] = search rules in
    record {
      n = is.n;
      transitions = is.transitions ++ t ∷ [];
      holds = holds_same (growing_of c.self-2.inside) _ is.n is.transitions t is.holds
          (within_held _ _ is.n is.transitions t c.self-2.view_is c.requires.within is.holds)
          (ap (λ (g : Growing). g.finished.state) same ∙ state)
          (ap (λ (g : Growing). g.finished.choice) same ∙ choice) refl refl parts;
    }

pub returns-clause-holds : goal.returns-clause-holds
returns-clause-holds c = λ n ts held.
    let t = c.args.transition.now in
    let P : Growing → Type 0 = λ g. HoldsInOrder g n ts in
    let is : HoldsInOrder (growing_of c.self-2.inside) n ts = subst P (sym c.self-2.view_is) held in
    let same : growing_of c.self-2.inside ≡ growing_of c.self.inside = c.self-2.view_is ∙ sym c.self.view_is in
    let state : c.self.inside.finished.state ≡ t.source = search rules in
    let choice : c.self.inside.finished.choice ≡ t.choice = search rules in
    let parts : c.push.new.self.items ≡ c.self-2.inside.parts.items ++ part_of t ∷ [] = search rules in
    holds_same (growing_of c.self-2.inside) _ n ts t is (within_held _ _ n ts t c.self-2.view_is c.requires.within is)
    (ap (λ (g : Growing). g.finished.state) same ∙ state)
    (ap (λ (g : Growing). g.finished.choice) same ∙ choice) refl refl parts
