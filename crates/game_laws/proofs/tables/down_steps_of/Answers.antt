use Rattle.std.proofs.Common.{arith, add-one, subst, sym, ℕ, ◌≤◌}
use Rattle.game_model.specs.Rounded.{down_steps}
use Rattle.game_model.proofs.Choices.{AreChoicesOf-choices_of}
use Rattle.game_laws.proofs.Steps.{down_steps-rises}
use Rattle.game_laws.proofs.Low.{down_steps-below, down_steps-near}
use Rattle.game_laws.proofs.tables.down_steps_of.Goals as goal

pub returns : goal.returns
returns c = record {
  rises = λ r s inside. subst (λ (j : ℕ). down_steps c.args.question.now r s ≤ down_steps c.args.question.now j s)
      (sym (add-one r)) (down_steps-rises c.args.question.now (AreChoicesOf-choices_of _ c.invariant.ensures.game) r s);
  below = λ r s. down_steps-below c.args.question.now (AreChoicesOf-choices_of _ c.invariant.ensures.game) r s;
  near = λ r s. omega
      (arith, down_steps-near c.args.question.now (AreChoicesOf-choices_of _ c.invariant.ensures.game) r s);
}
