use Rattle.std.proofs.Common.{◌≡◌, ◌<◌, ◌∙◌, ℕ, sym}
use Rattle.std.specs.Prelude.{slice_index}
use Rattle.std.proofs.lemmas.List.Elements.{All-weaker}
use Rattle.game_model.specs.Query.{states}
use Rattle.formula_reader.specs.Formula.{tree_of}
use Rattle.rpatl_syntax.specs.Dual.{answered}
use Rattle.verdicts.specs.Open.{LeavesOpen}
use Rattle.verdicts.specs.declared.report.How.TheVariants.{Solved}
use Rattle.verdicts.specs.declared.verdict.Verdict.TheVariants.{Undecided}
use Rattle.reports.proofs.Limits.{plan_line, plan-units}
use Rattle.reports.proofs.Reported.{verdict-answered, plan_verdict}
use Rattle.reports.proofs.SolvedPlans.{solved}
use Rattle.reports.proofs.solved.solved_report.Goals as goal

pub returns-clause-report : goal.returns-clause-report
returns-clause-report g c =
    let q = c.args.posed.now.question in
    let plan = c.in_ok-plan.plan in
    let f = tree_of c.args.spelled.now in
    let bound = (answered f).bound in
    let lower = plan.lower.items in
    let upper = plan.upper.items in
    let initial = c.args.posed.now.initial.items in
    let is_plan = c.in_ok-plan.ensures in
    let agree : (s : ℕ) → s < states q → (plan_line f Solved plan s).verdict ≡ plan_verdict bound plan s = λ s within.
    let units = plan-units q plan is_plan.lists is_plan.passes s within in
    verdict-answered c.mirrored_verdicts_are_those_of_the_dual.ensures f c.requires.share (slice_index lower s)
    (slice_index upper s) units.0 units.1 in
    solved q c.invariant.ensures plan is_plan c.make_answer.ensures.ranks (λ answer. answer.text.items)
    (λ answer. answer.status) initial f c.args.asked c.requires.inside
    (All-weaker (λ s. s < states q) (λ s.
    (plan_line f Solved plan s).verdict ≡ Undecided → LeavesOpen bound (slice_index lower s) (slice_index upper s) 1 0)
    (λ s within is. c.undecided_thresholds_are_left_open.ensures.here bound (slice_index lower s) (slice_index upper s)
    (sym (agree s within) ∙ is)) initial c.requires.inside)
    c.make_answer.result (rw c.deref-initial.ensures.value at c.make_answer.ensures.text)
    (rw c.deref-initial.ensures.value at c.make_answer.ensures.status)
