use Rattle.std.proofs.Common.{◌≡◌, ◌<◌, ◌∙◌, ℕ, sym}
use Rattle.std.specs.Prelude.{slice_index}
use Rattle.std.proofs.lemmas.List.Elements.{All-weaker}
use Rattle.game_model.specs.Query.{states}
use Rattle.formula_reader.specs.Formula.{tree_of}
use Rattle.verdicts.specs.Open.{LeavesOpen}
use Rattle.verdicts.specs.declared.report.How.TheVariants.{Audited}
use Rattle.verdicts.specs.declared.verdict.Verdict.TheVariants.{Undecided}
use Rattle.rpatl_syntax.specs.Dual.{answered}
use Rattle.reports.proofs.Limits.{plan_line, plan-units}
use Rattle.reports.proofs.Reported.{verdict-answered, plan_verdict}
use Rattle.reports.proofs.Audited.{lines-in_range, audited}
use Rattle.reports.proofs.audits.audit_report.Goals as goal

pub returns-clause-audited : goal.returns-clause-audited
returns-clause-audited c =
    let q = c.args.question.now in
    let plan = c.args.plan.now in
    let f = tree_of c.args.formula.now in
    let bound = (answered f).bound in
    let lower = plan.lower.items in
    let upper = plan.upper.items in
    let initial = c.args.initial.now in
    let sound = c.requires.sound in
    let agree : (s : ℕ) → s < states q → (plan_line f Audited plan s).verdict ≡ plan_verdict bound plan s = λ s within.
    let units = plan-units q plan c.requires.lists c.requires.passes s within in
    verdict-answered c.mirrored_verdicts_are_those_of_the_dual.ensures f c.requires.share (slice_index lower s)
    (slice_index upper s) units.0 units.1 in
    audited (λ answer. answer.text.items)
    (λ answer. answer.status) q c.invariant.ensures initial f plan c.requires.inside sound
    (lines-in_range q c.invariant.ensures f plan c.requires.lists c.requires.passes initial c.requires.inside)
    (All-weaker (λ s. s < states q) (λ s.
    (plan_line f Audited plan s).verdict ≡ Undecided → LeavesOpen bound (slice_index lower s) (slice_index upper s) 1 0)
    (λ s within is. c.undecided_thresholds_are_left_open.ensures.here bound (slice_index lower s) (slice_index upper s)
    (sym (agree s within) ∙ is)) initial c.requires.inside)
    c.report_of.result
    (rw (c.is_mirrored.ensures, c.deref.ensures.value, c.deref-2.ensures.value) at c.report_of.ensures.text)
    (rw (c.is_mirrored.ensures, c.deref.ensures.value, c.deref-2.ensures.value) at c.report_of.ensures.status)
