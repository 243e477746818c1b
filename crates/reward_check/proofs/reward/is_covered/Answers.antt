use Rattle.std.proofs.Common.{◌*◌, ◌-◌, ◌≤◌, ◌↔◌, IsTrue, arith, subst, List}
use Rattle.std.specs.Prelude.{slice_index}
use Rattle.game_model.specs.Game.{Distribution, choice_of, choice_among}
use Rattle.game_model.specs.Values.{weighted_sum}
use Rattle.game_model.proofs.Choices.{IsChoiceOf-choice_of}
use Rattle.reward_check.specs.Certificates.{flat_rewards}
use Rattle.reward_check.proofs.Entries.{covered-iff, covered-not}
use Rattle.reward_check.proofs.reward.is_covered.Goals as goal

pub returns-then-entry-reward : goal.returns-then-entry-reward
returns-then-entry-reward c = (
  λ ok. absurd (cc),
  λ most. absurd (covered-not c.reward_of-reward.result
      (flat_rewards c.args.question.now.game c.args.rewards.now c.args.state c.args.choice)
      (slice_index c.args.table.now c.args.state) (choice_of c.args.question.now.game c.args.state c.args.choice).total
      (weighted_sum (slice_index c.args.table.now)
      (choice_of c.args.question.now.game c.args.state c.args.choice).edges) c.reward_of-reward.ensures
      c.if-entry-reward.true
      (IsChoiceOf-choice_of c.args.question.now.game c.args.state c.args.choice c.invariant.ensures.game
      c.requires.state
      c.requires.choice).positive most),
)

pub returns : goal.returns
returns c =
    covered-iff (IsTrue c.holds.result) c.reward_of-reward.result
    (flat_rewards c.args.question.now.game c.args.rewards.now c.args.state c.args.choice)
    (slice_index c.args.table.now c.args.state) (choice_of c.args.question.now.game c.args.state c.args.choice).total
    (weighted_sum (slice_index c.args.table.now)
    (choice_of c.args.question.now.game c.args.state c.args.choice).edges) c.reward_of-reward.ensures
    (omega (arith, c.if-entry-reward.false))
    (subst (λ (row : List Distribution). IsTrue c.holds.result ↔ (weighted_sum (slice_index c.args.table.now)
    (choice_among row c.args.choice).edges
    ≤ (slice_index c.args.table.now c.args.state - c.reward_of-reward.result) * (choice_among row c.args.choice).total))
    c.row.ensures c.holds.ensures)
