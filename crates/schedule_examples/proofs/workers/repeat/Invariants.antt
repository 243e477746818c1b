use Rattle.value_words.specs.Passes.{Grew}
use Rattle.schedule_examples.proofs.workers.repeat.Given as goal

abbrev pub invariant-loop-turn : goal.invariant-loop-turn
invariant-loop-turn g l = Grew l.fn.pass l.pass
