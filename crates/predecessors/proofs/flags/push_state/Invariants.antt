use Rattle.predecessors.specs.Flags.{AreAnswersBefore}
use Rattle.predecessors.proofs.flags.push_state.Given as goal

abbrev pub invariant-loop-choice : goal.invariant-loop-choice
invariant-loop-choice g l = AreAnswersBefore l.game (goal.F-post g l.holds) l.state l.choice l.flags.items
