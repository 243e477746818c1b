use Rattle.std.proofs.Common.{ℕ, List, sym, subst}
use Rattle.distributions.specs.declared.choice.Part.{Part}
use Rattle.tra_reader.specs.inside.GrowingGames.{Growing, EndsBefore, HoldsInOrder, IsMade}
use Rattle.tra_reader.specs.inside.OfGrowing.{growing_of}
use Rattle.tra_reader.proofs.Gaps.{all_ready}
use Rattle.tra_reader.proofs.Growing.{all_finished}
use Rattle.tra_reader.proofs.game_in_order.GameInOrder.finish.Goals as goal

pub finish-requires : goal.finish-requires
finish-requires c =
    let held = c.self.invariant in
    let is = held.holds in
    let ended = c.end_before.new.self in
    let P : List Part → Type 0 = λ ps. EndsBefore ps c.self.inside.states c.self.inside.finished ended in
    let all = all_finished (growing_of c.self.inside) held.n held.transitions ended is c.end_before.ensures.state
    c.end_before.ensures.place (subst P c.deref.ensures.value c.end_before.ensures.made) in
    let Q : ℕ → Type 0 = λ s. IsMade held.n held.transitions s ended.choice ended.count ended.build_state in
    all_ready held.n held.transitions ended.choice ended.count ended.build_state is.some is.few
    (subst Q all.state all.made)

pub returns : goal.returns
returns c = λ n ts value.
    let H : Growing → Type 0 = λ g. HoldsInOrder g n ts in
    let is : HoldsInOrder (growing_of c.self.inside) n ts = subst H (sym c.self.view_is) value in
    let ended = c.end_before.new.self in
    let P : List Part → Type 0 = λ ps. EndsBefore ps c.self.inside.states c.self.inside.finished ended in
    let all = all_finished (growing_of c.self.inside) n ts ended is c.end_before.ensures.state
    c.end_before.ensures.place
    (subst P c.deref.ensures.value c.end_before.ensures.made) in
    c.finish.ensures n ts all.state all.choice all.made
