use Rattle.std.specs.Prelude.{slice_index}
use Rattle.std.proofs.lemmas.Result.{IfOk-weaker}
use Rattle.bounded_rounds.specs.Exact.{next_numerator}
use Rattle.reports.specs.Sweeps.{opens}
use Rattle.reports.proofs.NextValues.{next-best}
use Rattle.reports.proofs.sweeps.next_report.Goals as goal

pub returns-clause-report : goal.returns-clause-report
returns-clause-report g c =
    let q = c.args.posed.now.question in
    let table = c.args.posed.now.opening.items in
    IfOk-weaker c.sweep_report.result _ _
    (λ answer report. record {
      report = report (slice_index table) (next_numerator q (opens table))
          (rw (c.deref.ensures.value) at c.in_ok-sweep.ensures.sweep)
          (c.one_step_is_the_next_value.ensures q (slice_index table)
          (opens table) c.invariant.ensures c.requires.opening.next);
      best = next-best q (opens table) c.invariant.ensures;
    }) (rw (c.deref-2.ensures.value) at c.sweep_report.ensures.report)
