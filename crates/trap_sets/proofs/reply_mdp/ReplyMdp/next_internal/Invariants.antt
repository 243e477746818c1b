use Rattle.std.proofs.Common.{ℕ, ◌<◌, ◌≤◌}
use Rattle.trap_sets.specs.inside.Parts.{IsInternal}
use Rattle.trap_sets.proofs.reply_mdp.ReplyMdp.next_internal.Given as goal

abbrev pub invariant-loop-choice : goal.invariant-loop-choice
invariant-loop-choice l =
    (c : ℕ) → l.from ≤ c → c < l.choice → ¬ IsInternal l.self.question.now l.self.replies.now l.part l.state c
