use Rattle.std.proofs.lemmas.Result.{IfOk-weaker}
use Rattle.solved_rewards.proofs.Weakest.{merged-accepted}
use Rattle.solved_rewards.proofs.solve.weakest.Goals as goal

pub returns-clause-accepted : goal.returns-clause-accepted
returns-clause-accepted c =
    IfOk-weaker c.merge.result _ _ (λ lists are. merged-accepted c.args.sources.now lists c.requires are)
    c.merge.ensures
