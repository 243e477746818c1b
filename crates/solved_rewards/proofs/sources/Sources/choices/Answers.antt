use Rattle.std.proofs.Common.{rules}
use Rattle.solved_rewards.specs.inside.Merged.{IsChoiceAt}
use Rattle.solved_rewards.proofs.Pushed.{each-pushed}
use Rattle.solved_rewards.proofs.sources.Sources.choices.Goals as goal

pub loop-state-preserved : goal.loop-state-preserved
loop-state-preserved c = record {
  many = search rules;
  each =
      each-pushed (IsChoiceAt c.args.self.now c.args.lower.now) c.loop-state.list.items c.push.new.self.items
      c.loop-state.state c.choice_at.result c.loop-state.invariant.many c.in_ok-push.ensures.items
      c.loop-state.invariant.each c.choice_at.ensures;
}
