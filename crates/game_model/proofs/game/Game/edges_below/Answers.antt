use Rattle.std.proofs.Common.{arith, ◌≡◌, ◌<◌, ap, ◌∙◌, length, sym}
use Rattle.std.specs.Prelude.{slice_index, List}
use Rattle.game_model.specs.Game.{Distribution, edges_below}
use Rattle.game_model.proofs.Read.{read}
use Rattle.game_model.proofs.Facts.{states-count}
use Rattle.game_model.proofs.Below.{edges_below-at}
use Rattle.game_model.proofs.game.Game.edges_below.Goals as goal

pub index-requires : goal.index-requires
index-requires c = omega (
  arith,
  c.self.inside.first_choice.ok.0,
  c.self.invariant.laid_out.states.some,
  states-count _ _ _ _ _ _ _ c.self.view_is,
)

pub index-requires-2 : goal.index-requires-2
index-requires-2 c =
    let some : 0 < length c.self.inside.first_choice.items = c.self.invariant.laid_out.states.some in
    let inside : c.args.state < length c.self.inside.first_choice.items =
    omega (arith, states-count _ _ _ _ _ _ _ c.self.view_is) in
    omega (
      arith,
      c.self.inside.first_edge.ok.0,
      c.self.invariant.laid_out.states.last _ inside,
      c.self.invariant.laid_out.state_within,
      read c.self.inside.first_choice.items _ _ inside c.index.ensures,
    )

pub returns-clause-value : goal.returns-clause-value
returns-clause-value c =
    let some : 0 < length c.self.inside.first_choice.items = c.self.invariant.laid_out.states.some in
    let inside : c.args.state < length c.self.inside.first_choice.items =
    omega (arith, states-count _ _ _ _ _ _ _ c.self.view_is) in
    let first : c.index.result.now ≡ slice_index c.self.inside.first_choice.items c.args.state =
    read c.self.inside.first_choice.items _ _ inside c.index.ensures in
    let within : c.index.result.now < length c.self.inside.first_edge.items =
    omega (arith, first, c.self.invariant.laid_out.states.last _ inside, c.self.invariant.laid_out.state_within) in
    c.from.ensures ∙ read c.self.inside.first_edge.items _ _ within c.index-2.ensures
    ∙ ap (slice_index c.self.inside.first_edge.items) first
    ∙ sym (edges_below-at _ _ _ _ _ _ c.self.invariant.laid_out c.args.state inside)
    ∙ ap (λ (g : List (List Distribution)). edges_below g c.args.state) c.self.view_is
