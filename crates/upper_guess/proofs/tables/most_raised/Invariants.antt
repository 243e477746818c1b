use Rattle.std.proofs.Common.{◌≡◌, ℕ, ◌-◌, ◌<◌, ◌≤◌}
use Rattle.std.specs.Prelude.{slice_index, MatchOption}
use Rattle.upper_guess.proofs.tables.most_raised.Given as goal

abbrev pub invariant-loop-state : goal.invariant-loop-state
invariant-loop-state l = record {
  most : (s : ℕ) → s < l.state → slice_index l.next s - slice_index l.table s ≤ l.most;
  found : MatchOption l.found (l.most ≡ 0)
      (λ s. (s < l.state) × (0 < l.most) × (l.most ≡ slice_index l.next s - slice_index l.table s));
}
