use Rattle.std.proofs.Common.{◌≡◌, length}
use Rattle.game_model.specs.Growing.{IsPadded}
use Rattle.game_model.proofs.builder.pad.Given as goal

-- zeros so far
abbrev pub invariant-loop-place : goal.invariant-loop-place
invariant-loop-place l = IsPadded l.fn.high.items l.high.items × (length l.high.items ≡ l._place)
