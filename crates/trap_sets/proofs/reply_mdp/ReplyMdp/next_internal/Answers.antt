use Rattle.std.proofs.Common.{◌≡◌, true, arith, subst, inl, inr}
use Rattle.std.proofs.lemmas.Bool.{cases_eq, both_ways}
use Rattle.trap_sets.specs.inside.Parts.{IsInternal}
use Rattle.trap_sets.proofs.reply_mdp.ReplyMdp.next_internal.Goals as goal

pub loop-choice-preserved : goal.loop-choice-preserved
loop-choice-preserved c = λ k from below internal. elim (cases_eq k c.loop-choice.choice) [
  | inl same ↦
      let yes : c.is_internal.result ≡ true = c.is_internal.ensures.1 (subst (λ d.
      IsInternal c.args.self.now.question.now c.args.self.now.replies.now c.args.part.now c.args.state d) same internal)
      in
      both_ways c.is_internal.result c.if-is_internal.false yes
  | inr other ↦ c.loop-choice.invariant k from (omega (arith, below, other)) internal
]

pub returns-clause-before : goal.returns-clause-before
returns-clause-before c =
    λ k from below. c.loop-choice.invariant k from (omega (arith, below, c.loop-choice-test.false))
