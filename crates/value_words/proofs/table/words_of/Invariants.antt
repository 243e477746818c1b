use Rattle.std.proofs.Common.{◌≡◌, take}
use Rattle.std.specs.Mem.Slots.{slots_items}
use Rattle.value_words.proofs.table.words_of.Given as goal

abbrev pub invariant-loop-state : goal.invariant-loop-state
invariant-loop-state l = l.words.items ≡ take l.state (slots_items l.closed.words)
