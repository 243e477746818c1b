use Rattle.trap_sets.specs.inside.Each.{IsEach}
use Rattle.trap_sets.specs.inside.Settled.{IsKept}
use Rattle.trap_sets.proofs.rounds.without_exits.Given as goal

abbrev pub invariant-loop-state : goal.invariant-loop-state
invariant-loop-state l = IsEach (IsKept l.mdp.question.now l.mdp.replies.now l.part) l.kept.items l.state
