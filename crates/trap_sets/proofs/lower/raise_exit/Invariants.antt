use Rattle.std.specs.Prelude.{slice_index}
use Rattle.trap_sets.specs.Exits.{IsBestBefore}
use Rattle.trap_sets.proofs.lower.raise_exit.Given as goal

abbrev pub invariant-loop-choice : goal.invariant-loop-choice
invariant-loop-choice l =
    IsBestBefore l.upper.question.now (slice_index l.upper.entries.now) l.of l.exits l.state l.choice
