use Rattle.std.proofs.Common.{ℕ, ◌<◌, None}
use Rattle.std.specs.Prelude.{slice_index, slice_index_or}
use Rattle.inductive_check.specs.Replies.{NeedsReply, IsReply}
use Rattle.inductive_check.proofs.reply.check_replies.Given as goal

abbrev pub invariant-loop-state : goal.invariant-loop-state
invariant-loop-state l = (s : ℕ) → s < l.state → NeedsReply l.question s
    → IsReply l.question (slice_index l.upper) s (slice_index_or l.replies s None)
