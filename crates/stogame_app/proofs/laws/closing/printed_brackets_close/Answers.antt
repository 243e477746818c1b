use Rattle.std.specs.Prelude.{slice_index}
use Rattle.strategies.proofs.Stopping.{closes}
use Rattle.stogame_app.proofs.Closeness.{printed-close}
use Rattle.stogame_app.proofs.laws.closing.printed_brackets_close.Goals as goal

pub returns : goal.returns
returns c = λ q initial f check text status report n j stopping enough.
    closes q report.posed report.zero report.is_zero n j report.found.rounds (slice_index report.plan.lower.items)
    (slice_index report.plan.upper.items) stopping enough (printed-close q initial f check text status report)
