use Rattle.std.proofs.Common.{◌≡◌, ℕ, ◌<◌, length, None}
use Rattle.std.specs.Prelude.{slice_index, slice_index_or}
use Rattle.inductive_check.specs.Replies.{IsFirstReply}
use Rattle.inductive_check.proofs.reply.replies.Given as goal

abbrev pub invariant-loop-state : goal.invariant-loop-state
invariant-loop-state l = record {
  as_many : length l.replies.items ≡ l.state;
  each : (s : ℕ) → s < l.state
      → IsFirstReply l.question (slice_index l.upper) s (slice_index_or l.replies.items s None);
}
