use Rattle.predecessors.specs.Flags.{AreAnswersBefore}
use Rattle.predecessors.proofs.flags.ChoiceFlags.of_game.Given as goal

abbrev pub invariant-loop-state : goal.invariant-loop-state
invariant-loop-state g l = AreAnswersBefore l.game (goal.F-post g l.holds) l.state 0 l.flags.items
