use Rattle.std.proofs.Common.{add-one, subst, sym, ℕ, ◌≤◌}
use Rattle.game_model.specs.Rounded.{down_steps}
use Rattle.game_model.proofs.Choices.{AreChoicesOf-choices_of}
use Rattle.game_laws.proofs.Steps.{down_steps-rises}
use Rattle.game_laws.proofs.laws.steps.down_steps_rise.Goals as goal

pub returns : goal.returns
returns c = λ q r h s inside. subst (λ (j : ℕ). down_steps q r s ≤ down_steps q j s) (sym (add-one r))
    (down_steps-rises q (AreChoicesOf-choices_of q.game h.game) r s)
