use Rattle.std.proofs.Common.{arith, ◌≡◌, ◌-◌, length}
use Rattle.std.proofs.lemmas.Grind.{common_steps}
use Rattle.game_model.proofs.Facts.{states-count}
use Rattle.game_model.proofs.game.Game.states.Goals as goal

pub overflow_cast-result : goal.overflow_cast-result
overflow_cast-result c =
    let count : length c.self.inside.first_choice.items - 1 ≡ length c.args.self.now =
    states-count _ _ _ _ _ _ _ c.self.view_is in
    grind (arith, common_steps, count, c.self.invariant.game.few, c.self.inside.first_choice.ok.0, c.self.view_is)

pub returns : goal.returns
returns c = omega (arith, c.len.ensures, c.self.inside.first_choice.ok.0, states-count _ _ _ _ _ _ _ c.self.view_is)
