use Rattle.std.proofs.Common.{◌≡◌, ◌++◌, List, subst, sym}
use Rattle.std.proofs.lemmas.Result.{err_from_is_err_and}
use Rattle.game_model.specs.Game.{Distribution}
use Rattle.rewards_reader.specs.Rewards.{HasRewards}
use Rattle.verdicts.specs.declared.report.How.TheVariants.{Solved}
use Rattle.reward_formula.specs.Formula.{reward_tree_of}
use Rattle.reward_audit.specs.declared.audited.AuditedRewards.{AuditedRewards}
use Rattle.reward_audit.specs.Audited.{audited_certificate}
use Rattle.reward_words.specs.Words.{solve_reward_of}
use Rattle.reward_inputs.specs.Seen.{question_of}
use Rattle.reward_app.specs.OfWords.{of_solve}
use Rattle.reward_app.specs.Reports.{HasRewardsOf, ReportsOn, certificate_part, exact_by}
use Rattle.reward_app.proofs.Answered.{report_made, solve_asks, unposed_made, want_made}
use Rattle.reward_app.proofs.Certified.{solved_reported}
use Rattle.reward_app.proofs.solve.solve_loaded.Goals as goal

pub returns-in_err-problem : goal.returns-in_err-problem
returns-in_err-problem c =
    let p = err_from_is_err_and c.from_residual.result c.from_residual.ensures.1 in
    let e = c.in_err-problem.ensures in
    rw (p.1, p.2) (unposed_made question_of (solve_asks (solve_reward_of c.args.solve.now)) e.says e.nothing)

pub returns-in_err-solved : goal.returns-in_err-solved
returns-in_err-solved c =
    let p = err_from_is_err_and c.from_residual-in_err-solved.result c.from_residual-in_err-solved.ensures.1 in
    rw (p.1, p.2) want_made

pub returns-in_err-answer : goal.returns-in_err-answer
returns-in_err-answer c =
    let p = err_from_is_err_and c.from_residual-in_err-answer.result c.from_residual-in_err-answer.ensures.1 in
    rw (p.1, p.2) want_made

pub returns : goal.returns
returns c =
    let solve = solve_reward_of c.args.solve.now in
    let table = c.args.loaded.now.rewards in
    let problem = c.in_ok-problem.problem in
    let solved = c.in_ok-solved.solved in
    let answer = c.in_ok-answer.answer in
    let text = c.append_certificate.new.text in
    report_made (record { text = text; status = answer.status }) (λ holding words taken reads denoted short.
    let question = question_of reads.lines problem in
    let has : HasRewardsOf question table =
    subst (λ (game : List (List Distribution)). HasRewards game reads.lines table)
    (sym c.in_ok-problem.ensures.game) reads.has in
    of_solve solve question
    (record {
      denoted = denoted;
      asks = reads.asks question (c.in_ok-problem.ensures.says reads.lines);
      short = short;
    })
    (solved_reported c.accepted_bounds_are_in_order.ensures question solve.plan table solved answer.text.items
    text.items answer.status has c.in_ok-problem.ensures.alive c.in_ok-solved.ensures c.known_ranks.ensures
    (subst (λ (m : AuditedRewards). ReportsOn question (exact_by question table) Solved m.plan.places
    (audited_certificate question.posing.question m) answer.text.items answer.status) c.certified-made.ensures
    (rw c.deref.ensures.value at c.in_ok-answer.ensures.report))
    (subst (λ (m : AuditedRewards).
    text.items ≡ answer.text.items ++ certificate_part solve.plan question.formula m.plan) c.certified-made.ensures
    (c.in_ok-append_certificate.ensures (reward_tree_of problem.formula.now) c.in_ok-problem.ensures.formula))))
    c.in_ok-answer.ensures.answer
