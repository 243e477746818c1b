use Rattle.trap_sets.specs.inside.Each.{IsEach}
use Rattle.trap_sets.specs.inside.Settled.{IsOpening}
use Rattle.trap_sets.proofs.rounds.opening.Given as goal

abbrev pub invariant-loop-state : goal.invariant-loop-state
invariant-loop-state l = IsEach (IsOpening l.mdp.question.now) l.part.items l.state
