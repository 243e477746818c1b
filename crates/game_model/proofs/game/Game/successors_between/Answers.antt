use Rattle.std.proofs.Common.{arith, ◌≡◌, ◌+◌, ◌-◌, ◌<◌, ◌≤◌, ap, ◌∙◌, sym, subst, length, take, drop}
use Rattle.std.specs.Prelude.{slice_index, List, All}
use Rattle.game_model.specs.Game.{Distribution, successors_between}
use Rattle.game_model.specs.Span.{span}
use Rattle.game_model.proofs.Span.{take-drop-span}
use Rattle.game_model.proofs.Facts.{states-count}
use Rattle.game_model.proofs.Between.{begin-inside, begin-is, successors_between-at, between-within}
use Rattle.game_model.proofs.Between.{successors_between-states}
use Rattle.game_model.proofs.game.Game.successors_between.Goals as goal

pub index-requires : goal.index-requires
index-requires c = omega (
  arith,
  c.self.inside.first_choice.ok.0,
  c.self.invariant.laid_out.states.some,
  states-count _ _ _ _ _ _ _ c.self.view_is,
)

pub index-requires-2 : goal.index-requires-2
index-requires-2 c = omega (
  arith,
  c.self.inside.first_choice.ok.0,
  c.self.invariant.laid_out.states.some,
  states-count _ _ _ _ _ _ _ c.self.view_is,
)

pub index-begin-requires : goal.index-begin-requires
index-begin-requires c =
    let some : 0 < length c.self.inside.first_choice.items = c.self.invariant.laid_out.states.some in
    let inside : c.args.from < length c.self.inside.first_choice.items =
    omega (arith, states-count _ _ _ _ _ _ _ c.self.view_is) in
    omega (
      arith,
      c.self.inside.first_edge.ok.0,
      begin-inside _ _ _ _ _ c.self.invariant.laid_out _ _ inside c.index.ensures,
    )

pub index-end-requires : goal.index-end-requires
index-end-requires c =
    let some : 0 < length c.self.inside.first_choice.items = c.self.invariant.laid_out.states.some in
    let inside : c.args.to < length c.self.inside.first_choice.items =
    omega (arith, states-count _ _ _ _ _ _ _ c.self.view_is) in
    omega (
      arith,
      c.self.inside.first_edge.ok.0,
      begin-inside _ _ _ _ _ c.self.invariant.laid_out _ _ inside c.index-2.ensures,
    )

pub part-requires-clause-order : goal.part-requires-clause-order
part-requires-clause-order c =
    let some : 0 < length c.self.inside.first_choice.items = c.self.invariant.laid_out.states.some in
    let inside : c.args.to < length c.self.inside.first_choice.items =
    omega (arith, states-count _ _ _ _ _ _ _ c.self.view_is) in
    omega (
      arith,
      begin-is _ _ _ _ _ c.self.invariant.laid_out _ _ _ (omega arith) c.index.ensures c.index-begin.ensures,
      begin-is _ _ _ _ _ c.self.invariant.laid_out _ _ _ inside c.index-2.ensures c.index-end.ensures,
      (successors_between-at _ _ _ _ _ c.self.inside.high.items c.self.invariant.laid_out c.args.from c.args.to
          c.requires.order inside).1,
    )

pub part-requires-clause-within : goal.part-requires-clause-within
part-requires-clause-within c =
    let some : 0 < length c.self.inside.first_choice.items = c.self.invariant.laid_out.states.some in
    let inside : c.args.to < length c.self.inside.first_choice.items =
    omega (arith, states-count _ _ _ _ _ _ _ c.self.view_is) in
    omega (
      arith,
      begin-is _ _ _ _ _ c.self.invariant.laid_out _ _ _ inside c.index-2.ensures c.index-end.ensures,
      between-within _ _ _ _ _ c.self.invariant.laid_out c.args.to inside,
      ap length c.deref.ensures.value,
    )

pub returns-clause-list : goal.returns-clause-list
returns-clause-list c =
    let some : 0 < length c.self.inside.first_choice.items = c.self.invariant.laid_out.states.some in
    let inside : c.args.to < length c.self.inside.first_choice.items =
    omega (arith, states-count _ _ _ _ _ _ _ c.self.view_is) in
    let from_is : c.index-begin.result.now
    ≡ slice_index c.self.inside.first_edge.items (slice_index c.self.inside.first_choice.items c.args.from) =
    begin-is _ _ _ _ _ c.self.invariant.laid_out _ _ _ (omega arith) c.index.ensures c.index-begin.ensures in
    let to_is : c.index-end.result.now
    ≡ slice_index c.self.inside.first_edge.items (slice_index c.self.inside.first_choice.items c.args.to) =
    begin-is _ _ _ _ _ c.self.invariant.laid_out _ _ _ inside c.index-2.ensures c.index-end.ensures in
    let part = successors_between-at _ _ _ _ _ c.self.inside.high.items c.self.invariant.laid_out c.args.from c.args.to
    c.requires.order inside in
    let within : c.index-begin.result.now + (c.index-end.result.now - c.index-begin.result.now)
    ≤ length c.self.inside.to.items =
    omega (arith, from_is, to_is, part.1, between-within _ _ _ _ _ c.self.invariant.laid_out c.args.to inside) in
    c.part.ensures
    ∙ ap (λ xs. take (c.index-end.result.now - c.index-begin.result.now) (drop c.index-begin.result.now xs))
    c.deref.ensures.value
    ∙ take-drop-span c.self.inside.to.items c.index-begin.result.now
    (c.index-end.result.now - c.index-begin.result.now) within
    ∙ ap (λ n. span (slice_index c.self.inside.to.items) n (c.index-end.result.now - n)) from_is
    ∙ ap (λ n. span (slice_index c.self.inside.to.items)
    (slice_index c.self.inside.first_edge.items (slice_index c.self.inside.first_choice.items c.args.from))
    (n - slice_index c.self.inside.first_edge.items (slice_index c.self.inside.first_choice.items c.args.from))) to_is
    ∙ sym part.0
    ∙ ap (λ (g : List (List Distribution)). successors_between g c.args.from c.args.to) c.self.view_is

pub returns-clause-states : goal.returns-clause-states
returns-clause-states c =
    subst (All (λ t. t < length c.args.self.now)) (sym (returns-clause-list c))
    (successors_between-states c.args.self.now c.args.from c.args.to c.invariant.ensures)
