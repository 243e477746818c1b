use Rattle.std.proofs.Common.{arith, ◌<◌, ap, ◌∙◌, length, sym}
use Rattle.std.specs.Prelude.{List}
use Rattle.game_model.specs.Game.{Distribution, choices_below}
use Rattle.game_model.proofs.Read.{read}
use Rattle.game_model.proofs.Facts.{states-count}
use Rattle.game_model.proofs.Below.{choices_below-at}
use Rattle.game_model.proofs.game.Game.choices_below.Goals as goal

pub index-requires : goal.index-requires
index-requires c = omega (
  arith,
  c.self.inside.first_choice.ok.0,
  c.self.invariant.laid_out.states.some,
  states-count _ _ _ _ _ _ _ c.self.view_is,
)

pub returns-clause-value : goal.returns-clause-value
returns-clause-value c =
    let inside : c.args.state < length c.self.inside.first_choice.items =
    omega (arith, c.self.invariant.laid_out.states.some, states-count _ _ _ _ _ _ _ c.self.view_is) in
    c.from.ensures ∙ read c.self.inside.first_choice.items _ _ inside c.index.ensures
    ∙ sym (choices_below-at _ _ _ _ _ _ c.self.invariant.laid_out c.args.state inside)
    ∙ ap (λ (g : List (List Distribution)). choices_below g c.args.state) c.self.view_is
