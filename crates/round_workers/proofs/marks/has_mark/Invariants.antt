use Rattle.std.proofs.Common.{◌≡◌, false}
use Rattle.std.specs.Prelude.{MatchBool}
use Rattle.std.specs.List.{AllWithin}
use Rattle.round_workers.specs.Marks.{HasMark}
use Rattle.round_workers.proofs.marks.has_mark.Given as goal

abbrev pub invariant-loop-place : goal.invariant-loop-place
invariant-loop-place l =
    MatchBool l.any (HasMark l.marks l.from l.place) (AllWithin (λ m. m ≡ false) l.marks l.from l.place)
