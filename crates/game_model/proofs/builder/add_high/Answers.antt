use Rattle.game_model.proofs.High.{high-pushed}
use Rattle.game_model.proofs.builder.add_high.Goals as goal

pub returns-in_ok-push_high-clause-ok : goal.returns-in_ok-push_high-clause-ok
returns-in_ok-push_high-clause-ok c =
    high-pushed _ _ _ c.args.edges.now c.in_ok-pad.ensures.len c.in_ok-push_high.ensures.items
