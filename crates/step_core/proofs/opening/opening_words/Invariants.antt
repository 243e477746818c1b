use Rattle.std.proofs.Common.{◌≡◌, take}
use Rattle.step_core.specs.Word.{opening_words}
use Rattle.step_core.proofs.opening.opening_words.Given as goal

abbrev pub invariant-loop-state : goal.invariant-loop-state
invariant-loop-state l = l.words.items ≡ take l.state (opening_words l.question)
