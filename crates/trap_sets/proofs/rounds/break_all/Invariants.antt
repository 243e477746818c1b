use Rattle.std.proofs.Common.{◌≡◌, ◌+◌, ◌-◌, length, false}
use Rattle.std.specs.Bool.{if◌then◌else◌}
use Rattle.trap_sets.specs.inside.Parts.{IsRooted}
use Rattle.trap_sets.specs.inside.Settled.{KeepsEnds, AreJoined}
use Rattle.trap_sets.specs.inside.Roots.{roots}
use Rattle.trap_sets.proofs.rounds.break_all.Given as goal

abbrev pub invariant-loop-breaks : goal.invariant-loop-breaks
invariant-loop-breaks l = record {
  keeps : KeepsEnds l.mdp.question.now l.mdp.replies.now l.part;
  rooted : IsRooted l.part;
  joined : l.breaks ≡ false → AreJoined l.mdp.question.now l.mdp.replies.now l.part;
}

abbrev pub decreases-loop-breaks : goal.decreases-loop-breaks
decreases-loop-breaks l = if l.breaks then length l.part - roots l.part + 1 else 0
