use Rattle.std.proofs.Common.{◌≡◌, length}
use Rattle.game_model.specs.Query.{states}
use Rattle.trap_sets.specs.inside.Settled.{KeepsEnds}
use Rattle.trap_sets.proofs.trim.follow_gone.Given as goal

abbrev pub invariant-loop-step : goal.invariant-loop-step
invariant-loop-step l = record {
  many : length l.next_choice ≡ states l.mdp.question.now;
  keeps : KeepsEnds l.mdp.question.now l.mdp.replies.now l.part;
}
