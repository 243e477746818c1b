use Rattle.trap_sets.specs.inside.Settled.{KeepsEnds}
use Rattle.trap_sets.proofs.rounds.settled_parts.Given as goal

abbrev pub invariant-loop-round : goal.invariant-loop-round
invariant-loop-round l = KeepsEnds l.mdp.question.now l.mdp.replies.now l.part.items
