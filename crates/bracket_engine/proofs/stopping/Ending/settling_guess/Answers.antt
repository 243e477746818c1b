use Rattle.std.proofs.Common.{◌≡◌, true}
use Rattle.std.specs.Prelude.{slice_index}
use Rattle.verdicts.specs.Stop.{bound_of}
use Rattle.bracket_engine.proofs.Ending.{settled-lesser}
use Rattle.bracket_engine.proofs.stopping.Ending.settling_guess.Goals as goal

pub returns-then-not-settles-clause-open : goal.returns-then-not-settles-clause-open
returns-then-not-settles-clause-open g c none settled =
    let yes : c.settles.result ≡ true =
    c.settles.ensures.1 (settled-lesser (bound_of c.args.self.now.rule.now) c.args.self.now.initial.now
    (slice_index c.args.lower.now) (slice_index c.args.swapped_values.now) (slice_index c.deref.result.now) settled) in
    absurd (cc (yes, c.if-not-settles.true))
