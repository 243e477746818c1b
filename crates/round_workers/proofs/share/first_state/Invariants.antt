use Rattle.std.proofs.Common.{ℕ, ◌-◌, ◌<◌, ◌≤◌, length}
use Rattle.round_workers.specs.Share.{worker_of}
use Rattle.round_workers.proofs.share.first_state.Given as goal

abbrev pub invariant-loop-low : goal.invariant-loop-low
invariant-loop-low l = record {
  order : l.low ≤ l.high;
  within : l.high ≤ length l.game;
  before : (s : ℕ) → s < l.low → worker_of l.game l.workers s < l.worker;
  behind : (s : ℕ) → l.high ≤ s → s < length l.game → l.worker ≤ worker_of l.game l.workers s;
}

abbrev pub decreases-loop-low : goal.decreases-loop-low
decreases-loop-low l = l.high - l.low
