use Rattle.std.proofs.Common.{ap}
use Rattle.game_model.proofs.State.{finished}
use Rattle.game_model.proofs.builder.GameBuilder.finish.Goals as goal

pub invariant_of-result : goal.invariant_of-result
invariant_of-result c = record {
  game = finished _ _ _ _ _ _ c.args.self.done c.self.invariant (ap (λ d. d.done) c.self.view_is) c.requires.some
      c.requires.few c.requires.chosen c.requires.bounded c.requires.inside;
  laid_out = c.self.invariant.laid_out;
}
