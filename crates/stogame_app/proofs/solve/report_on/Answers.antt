use Rattle.std.proofs.Common.{◌≡◌, subst}
use Rattle.std.proofs.lemmas.Result.{IfOk-weaker}
use Rattle.formula_reader.specs.declared.formula.PathKind.{PathKind}
use Rattle.formula_reader.specs.declared.formula.PathKind.TheVariants.{Within}
use Rattle.formula_reader.specs.Formula.{tree_of}
use Rattle.rpatl_syntax.specs.Spellable.{HasKind}
use Rattle.formula_sets.specs.Seen.{posing_of, next_posing_of}
use Rattle.command_words.specs.Words.{solve_of}
use Rattle.inputs.specs.declared.problem.Problem.{Problem}
use Rattle.inputs.specs.Problems.{states_of}
use Rattle.inputs.specs.Questions.{GivesValues}
use Rattle.inputs.specs.SeenProblems.{IsOfKind, problem_of}
use Rattle.stogame_app.specs.inside.Posed.{IsReportable}
use Rattle.stogame_app.specs.Reports.{Solves, of_solve, of_solve_within, of_solve_next, of_solve_nested}
use Rattle.stogame_app.proofs.solve.report_on.Goals as goal

pub within_report-requires-clause-steps : goal.within_report-requires-clause-steps
within_report-requires-clause-steps g c κs within =
    let f = c.args.formula.now in
    let kind : f.kind ≡ Within c.in-Within.steps =
    subst (λ (p : Problem). IsOfKind f.kind p) c.in-Within.is c.requires.kind in
    subst (λ (k : PathKind). HasKind k (tree_of f).left) kind c.requires.steps

pub returns-in-Reach-clause-report : goal.returns-in-Reach-clause-report
returns-in-Reach-clause-report g c =
    let solve = solve_of c.args.solve.now in
    let f = tree_of c.args.formula.now in
    IfOk-weaker c.solved_report.result _ _
    (λ answer report words holding taken asks hints. of_solve solve (posing_of c.in-Reach.posed) f
    (subst (λ (p : Problem). Solves words holding taken solve (problem_of p) f) c.in-Reach.is asks)
    (subst (λ (p : Problem). GivesValues holding solve.values (states_of (problem_of p))) c.in-Reach.is hints) report)
    c.solved_report.ensures.report

pub returns-in-Within-clause-report : goal.returns-in-Within-clause-report
returns-in-Within-clause-report g c =
    let solve = solve_of c.args.solve.now in
    let f = tree_of c.args.formula.now in
    IfOk-weaker c.within_report.result _ _
    (λ answer report words holding taken asks hints. of_solve_within solve c.in-Within.steps
    (posing_of c.in-Within.posed) f
    (subst (λ (p : Problem). Solves words holding taken solve (problem_of p) f) c.in-Within.is asks) report)
    c.within_report.ensures.report

pub returns-in-Next-clause-report : goal.returns-in-Next-clause-report
returns-in-Next-clause-report g c =
    let solve = solve_of c.args.solve.now in
    let f = tree_of c.args.formula.now in
    IfOk-weaker c.next_report.result _ _
    (λ answer report words holding taken asks hints. of_solve_next solve (next_posing_of c.in-Next.posed) f
    (subst (λ (p : Problem). Solves words holding taken solve (problem_of p) f) c.in-Next.is asks) report)
    c.next_report.ensures.report

pub returns-in-Nested-clause-report : goal.returns-in-Nested-clause-report
returns-in-Nested-clause-report g c =
    let solve = solve_of c.args.solve.now in
    let f = tree_of c.args.formula.now in
    let answerable = subst (λ (p : Problem). IsReportable p f) c.in-Nested.is c.requires.reportable in
    let same = answerable.1 in
    IfOk-weaker c.nested_report.result _ _
    (λ answer report words holding taken asks hints. of_solve_nested solve _ _ f
    (subst (λ (p : Problem). Solves words holding taken solve (problem_of p) f) c.in-Nested.is asks)
    (rw (same, c.deref.ensures.value) at report)) c.nested_report.ensures.report
