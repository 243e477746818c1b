use Rattle.std.proofs.Common.{Bool, List, subst}
use Rattle.solved_rewards.specs.Paid.{IsLowerOf}
use Rattle.solved_rewards.proofs.solve.solve_rewards.Goals as goal

pub returns-clause-values : goal.returns-clause-values
returns-clause-values c = record {
  lower =
      subst (λ (finite : List Bool). IsLowerOf c.args.question.now finite c.args.candidates
      c.in_ok-lists.lists.lower.items) c.deref-6.ensures.value c.in_ok-lists.ensures.filled.lower;
  upper = c.in_ok-lists.ensures.filled.are.upper;
}
