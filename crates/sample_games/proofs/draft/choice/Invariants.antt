use Rattle.sample_games.proofs.Drafts.{AreEdges}
use Rattle.sample_games.proofs.draft.choice.Given as goal

abbrev pub invariant-loop-to : goal.invariant-loop-to
invariant-loop-to l = AreEdges l.states l.least l.made.items
