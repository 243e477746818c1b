use Rattle.formula_reader.specs.Formula.{tree_of}
use Rattle.reports.proofs.Swept.{swept}
use Rattle.reports.proofs.sweeps.sweep_report.Goals as goal

pub returns-clause-report : goal.returns-clause-report
returns-clause-report c =
    swept c.rounded_steps_bracket_exact_values.ensures c.verdicts_of_fractions_are_right.ensures c.args.question.now
    c.invariant.ensures c.args.steps c.requires.steps c.args.initial.now c.requires.inside (tree_of c.args.formula.now)
    c.args.sweep.now.lower.items c.args.sweep.now.upper.items c.requires.units.0 c.requires.units.1
    (λ answer. answer.text.items) (λ answer. answer.status)
    c.report_of.result (rw (c.deref.ensures.value, c.deref-2.ensures.value) at c.report_of.ensures.text)
    (rw (c.deref.ensures.value, c.deref-2.ensures.value) at c.report_of.ensures.status)
