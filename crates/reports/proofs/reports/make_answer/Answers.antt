use Rattle.std.proofs.Common.{◌≡◌, Bool, map, subst}
use Rattle.output.specs.Printed.{line_of, status_of}
use Rattle.reports.proofs.reports.make_answer.Goals as goal

pub returns-clause-status : goal.returns-clause-status
returns-clause-status c =
    let f = c.args.formulas.spelled.now in
    let plan = c.args.plan.now in
    subst (λ (b : Bool). c.in_ok-answer.answer.status
    ≡ status_of (map (line_of b f.bound c.args.how plan.lower.items plan.upper.items) c.args.initial.now))
    c.is_mirrored.ensures (rw (c.deref-2.ensures.value, c.deref-3.ensures.value) at c.in_ok-answer.ensures.status)
