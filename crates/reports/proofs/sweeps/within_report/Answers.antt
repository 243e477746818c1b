use Rattle.std.proofs.lemmas.Result.{IfOk-weaker}
use Rattle.game_model.specs.Rounded.{opening}
use Rattle.game_model.specs.Values.{numerator}
use Rattle.strategies.proofs.Best.{best}
use Rattle.reports.proofs.sweeps.within_report.Goals as goal

pub returns-clause-report : goal.returns-clause-report
returns-clause-report g c =
    let q = c.args.posed.now.question in
    IfOk-weaker c.sweep_report.result _ _
    (λ answer report. record {
      report = report (opening q) (numerator q c.args.steps) c.in_ok-sweep.ensures.sweep
          (λ s inside. c.exact_values_are_k_step_values.ensures q c.args.steps s);
      best = best q c.args.steps c.invariant.ensures;
    }) (rw (c.deref.ensures.value) at c.sweep_report.ensures.report)
