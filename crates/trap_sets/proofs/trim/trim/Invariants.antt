use Rattle.std.proofs.Common.{◌≡◌, length}
use Rattle.game_model.specs.Query.{states}
use Rattle.trap_sets.specs.inside.Settled.{KeepsEnds}
use Rattle.trap_sets.proofs.trim.trim.Given as goal

abbrev pub invariant-loop-state : goal.invariant-loop-state
invariant-loop-state l = record {
  many : length l.next_choice.items ≡ states l.mdp.question.now;
  keeps : KeepsEnds l.mdp.question.now l.mdp.replies.now l.part;
}

abbrev pub invariant-loop-place : goal.invariant-loop-place
invariant-loop-place l = record {
  many : length l.next_choice.items ≡ states l.mdp.question.now;
  keeps : KeepsEnds l.mdp.question.now l.mdp.replies.now l.part;
}
