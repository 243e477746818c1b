use Rattle.std.proofs.Common.{◌*◌, ◌-◌, ◌≤◌, ◌↔◌, IsTrue, refl, subst, List}
use Rattle.std.specs.Prelude.{slice_index}
use Rattle.game_model.specs.Game.{Distribution, choice_of, choice_among}
use Rattle.game_model.specs.Values.{weighted_sum}
use Rattle.reward_check.specs.Certificates.{flat_rewards}
use Rattle.reward_check.proofs.Entries.{paid-iff, paid-all}
use Rattle.reward_check.proofs.reward.is_paid.Goals as goal

pub returns-then-entry-reward : goal.returns-then-entry-reward
returns-then-entry-reward c = (
  λ ok. paid-all c.reward_of-reward.result
      (flat_rewards c.args.question.now.game c.args.rewards.now c.args.state c.args.choice)
      (slice_index c.args.table.now c.args.state) (choice_of c.args.question.now.game c.args.state c.args.choice).total
      (weighted_sum (slice_index c.args.table.now)
      (choice_of c.args.question.now.game c.args.state c.args.choice).edges) c.reward_of-reward.ensures
      c.if-entry-reward.true,
  λ least. refl,
)

pub returns : goal.returns
returns c =
    paid-iff (IsTrue c.gives.result) c.reward_of-reward.result
    (flat_rewards c.args.question.now.game c.args.rewards.now c.args.state c.args.choice)
    (slice_index c.args.table.now c.args.state) (choice_of c.args.question.now.game c.args.state c.args.choice).total
    (weighted_sum (slice_index c.args.table.now)
    (choice_of c.args.question.now.game c.args.state c.args.choice).edges) c.reward_of-reward.ensures
    c.if-entry-reward.false
    (subst (λ (row : List Distribution). IsTrue c.gives.result ↔
    ((slice_index c.args.table.now c.args.state - c.reward_of-reward.result) * (choice_among row c.args.choice).total
    ≤ weighted_sum (slice_index c.args.table.now) (choice_among row c.args.choice).edges))
    c.row.ensures c.gives.ensures)
