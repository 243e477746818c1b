use Rattle.std.proofs.Common.{◌≡◌, ℕ, ◌<◌, length, get_or, None}
use Rattle.solved_rewards.specs.inside.Merged.{IsChoiceAt}
use Rattle.solved_rewards.proofs.sources.Sources.choices.Given as goal

abbrev pub invariant-loop-state : goal.invariant-loop-state
invariant-loop-state l = record {
  many : length l.list.items ≡ l.state;
  each : (s : ℕ) → s < l.state → IsChoiceAt l.self l.lower s (get_or l.list.items s None);
}
