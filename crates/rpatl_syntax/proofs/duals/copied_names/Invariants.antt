use Rattle.std.proofs.Common.{◌≡◌, take}
use Rattle.rpatl_syntax.proofs.duals.copied_names.Given as goal

abbrev pub invariant-loop-name : goal.invariant-loop-name
invariant-loop-name l = l.list.items ≡ take l.name-index l.names.list.items
