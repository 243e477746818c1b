use Rattle.std.proofs.Common.{◌≡◌, subst}
use Rattle.std.proofs.lemmas.Result.{IfOk-weaker}
use Rattle.formula_reader.specs.declared.formula.PathKind.{PathKind}
use Rattle.formula_reader.specs.declared.formula.PathKind.TheVariants.{Within}
use Rattle.formula_reader.specs.Formula.{tree_of}
use Rattle.rpatl_syntax.specs.Spellable.{HasKind}
use Rattle.formula_sets.specs.Seen.{posing_of, next_posing_of}
use Rattle.command_words.specs.Words.{check_of}
use Rattle.inputs.specs.declared.problem.Problem.{Problem}
use Rattle.inputs.specs.SeenProblems.{IsOfKind, problem_of}
use Rattle.stogame_app.specs.inside.Posed.{IsReportable}
use Rattle.stogame_app.specs.Reports.{Checks, of_reach, of_within, of_next, of_nested}
use Rattle.stogame_app.proofs.check.report_on.Goals as goal

pub within_report-requires-clause-steps : goal.within_report-requires-clause-steps
within_report-requires-clause-steps g c κs within =
    let f = c.args.formula.now in
    let kind : f.kind ≡ Within c.in-Within.steps =
    subst (λ (p : Problem). IsOfKind f.kind p) c.in-Within.is c.requires.kind in
    subst (λ (k : PathKind). HasKind k (tree_of f).left) kind c.requires.steps

pub returns-in-Reach-clause-report : goal.returns-in-Reach-clause-report
returns-in-Reach-clause-report g c =
    let check = check_of c.args.check.now in
    let f = tree_of c.args.formula.now in
    IfOk-weaker c.bracket_report.result _ _
    (λ answer report words holding taken asks. of_reach check (posing_of c.in-Reach.posed) f
    (subst (λ (p : Problem). Checks words holding taken check (problem_of p) f) c.in-Reach.is asks) report)
    c.bracket_report.ensures.report

pub returns-in-Within-clause-report : goal.returns-in-Within-clause-report
returns-in-Within-clause-report g c =
    let check = check_of c.args.check.now in
    let f = tree_of c.args.formula.now in
    IfOk-weaker c.within_report.result _ _
    (λ answer report words holding taken asks. of_within check c.in-Within.steps (posing_of c.in-Within.posed) f
    (subst (λ (p : Problem). Checks words holding taken check (problem_of p) f) c.in-Within.is asks) report)
    c.within_report.ensures.report

pub returns-in-Next-clause-report : goal.returns-in-Next-clause-report
returns-in-Next-clause-report g c =
    let check = check_of c.args.check.now in
    let f = tree_of c.args.formula.now in
    IfOk-weaker c.next_report.result _ _
    (λ answer report words holding taken asks. of_next check (next_posing_of c.in-Next.posed) f
    (subst (λ (p : Problem). Checks words holding taken check (problem_of p) f) c.in-Next.is asks) report)
    c.next_report.ensures.report

pub returns-in-Nested-clause-report : goal.returns-in-Nested-clause-report
returns-in-Nested-clause-report g c =
    let check = check_of c.args.check.now in
    let f = tree_of c.args.formula.now in
    let answerable = subst (λ (p : Problem). IsReportable p f) c.in-Nested.is c.requires.reportable in
    let same = answerable.1 in
    IfOk-weaker c.nested_report.result _ _
    (λ answer report words holding taken asks. of_nested check _ _ f
    (subst (λ (p : Problem). Checks words holding taken check (problem_of p) f) c.in-Nested.is asks)
    (rw (same, c.deref.ensures.value) at report)) c.nested_report.ensures.report
