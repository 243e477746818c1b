use Rattle.std.proofs.Common.{◌≡◌, ℕ, ◌<◌, true}
use Rattle.std.specs.Prelude.{slice_index}
use Rattle.verdicts.specs.Verdict.{verdict_of, is_settling}
use Rattle.verdicts.specs.Stop.{bound_of}
use Rattle.bracket_engine.specs.Stop.{upper_from}
use Rattle.bracket_engine.proofs.stopping.Ending.settles.Given as goal

abbrev pub invariant-loop-state : goal.invariant-loop-state
invariant-loop-state g l = (k : ℕ) → k < l.state-index
    → is_settling (verdict_of (bound_of l.self.rule.now) (slice_index l.lower (slice_index l.self.initial.now k))
    (upper_from (slice_index l.swapped_values) (slice_index l.guess) (slice_index l.self.initial.now k))) ≡ true
