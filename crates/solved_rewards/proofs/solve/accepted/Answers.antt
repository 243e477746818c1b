use Rattle.std.proofs.Common.{rules}
use Rattle.std.specs.Prelude.{IsOk}
use Rattle.solved_rewards.proofs.Same.{accepted-same}
use Rattle.solved_rewards.proofs.solve.accepted.Goals as goal

pub returns-clause-refused : goal.returns-clause-refused
returns-clause-refused c = record {
  lists = c.in_ok-lists.lists;
  are = c.in_ok-lists.ensures;
  refused = λ is.
      let passed : IsOk c.check_rewards.result =
      c.check_rewards.ensures.ok.1
      (accepted-same c.args.sources.now.question.now c.args.sources.now.finite.now _ _ _ _ _ _ _ _ _ _ _ _ _ _ _ _
      c.deref.ensures.value c.deref-2.ensures.value c.deref-3.ensures.value c.deref-4.ensures.value
      c.deref-5.ensures.value c.deref-6.ensures.value c.deref-7.ensures.value c.deref-8.ensures.value is) in
      search rules;
}
