use Rattle.std.proofs.Common.{subst, inr, List, ℕ}
use Rattle.std.specs.Prelude.{MatchOption}
use Rattle.std.proofs.lemmas.Result.{IfOk-weaker}
use Rattle.game_model.specs.Query.{states}
use Rattle.game_model.specs.Tables.{IsTable}
use Rattle.rank_certificate.specs.Carrying.{CanBeRanked, IsLayeredPlan}
use Rattle.solved_plans.specs.Bounds.{lower_bound, counted}
use Rattle.solved_plans.proofs.Bounds.{none-ranked}
use Rattle.solved_plans.proofs.reached.reached_table.Goals as goal

pub returns-clause-values : goal.returns-clause-values
returns-clause-values c =
    let q = c.args.question.now in
    let entries = lower_bound c.args.sure.now c.args.zero.now (counted (states q) c.args.candidate.now) in
    let refused : ¬ CanBeRanked q c.deref.result.now =
    subst (λ found. MatchOption found (¬ CanBeRanked q c.deref.result.now)
    (λ plan. IsLayeredPlan q c.deref.result.now plan.choices.items plan.ranks.items)) c.in_default.is
    c.in_ok-plan.ensures.found in
    let none : ¬ CanBeRanked q c.in_ok-values.values.items =
    subst (λ (values : List ℕ). ¬ CanBeRanked q values) c.deref.ensures.value refused in
    let table : IsTable q entries c.in_ok-values.values.items =
    subst (λ (candidate : List ℕ). IsTable q (lower_bound c.args.sure.now c.args.zero.now candidate)
    c.in_ok-values.values.items) c.counted_of.ensures c.in_ok-values.ensures in
    IfOk-weaker c.weakest_table.result _ _
    (λ reached weakest. inr (weakest, none-ranked q entries c.in_ok-values.values.items table none))
    c.weakest_table.ensures.values
