use Rattle.value_words.specs.Passes.{Grew}
use Rattle.schedule_examples.proofs.workers.sweeps.Given as goal

abbrev pub invariant-loop-turn : goal.invariant-loop-turn
invariant-loop-turn g l = Grew l.fn.pass l.pass

abbrev pub invariant-loop-state : goal.invariant-loop-state
invariant-loop-state g l = Grew l.fn.pass l.pass
