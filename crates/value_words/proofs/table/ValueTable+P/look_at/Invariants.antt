use Rattle.value_words.specs.Passes.{Looked}
use Rattle.value_words.proofs.table.ValueTable+P.look_at.Given as goal

abbrev pub invariant-loop-state : goal.invariant-loop-state
invariant-loop-state g l = Looked l.fn.pass l.pass
