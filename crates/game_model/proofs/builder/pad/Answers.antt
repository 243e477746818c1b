use Rattle.std.proofs.Common.{ap, ◌+◌, ◌∙◌, length}
use Rattle.std.proofs.lemmas.List.{length_push}
use Rattle.game_model.proofs.High.{padded-more}
use Rattle.game_model.proofs.builder.pad.Goals as goal

pub loop-place-preserved : goal.loop-place-preserved
loop-place-preserved c = (
  padded-more _ _ _ c.loop-place.invariant.0 c.in_ok-push.ensures.items,
  ap length c.in_ok-push.ensures.items ∙ length_push c.loop-place.high.items 0
      ∙ ap (λ n. n + 1) c.loop-place.invariant.1,
)
