use Rattle.std.proofs.Common.{rules}
use Rattle.predecessors.proofs.Flagged.{AreAnswers-say}
use Rattle.trap_sets.proofs.internal.Internal.of_parts.Goals as goal

pub invariant_of-result-clause-flagged : goal.invariant_of-result-clause-flagged
invariant_of-result-clause-flagged c = AreAnswers-say c.args.mdp.now.question.now.game c.game.result.now _ _ _
    c.game.ensures c.in_ok-flags.ensures (λ s choice b inside within answer. search rules)
