use Rattle.std.proofs.Common.{inr, List, ℕ, subst, sym, rules}
use Rattle.std.specs.Prelude.{IsOk}
use Rattle.game_model.specs.Query.{states}
use Rattle.game_model.specs.Tables.{IsTable}
use Rattle.solved_plans.specs.Bounds.{upper_bound, counted}
use Rattle.solved_plans.proofs.Bounds.{table-inductive}
use Rattle.solved_plans.proofs.held.inductive_table.Goals as goal

pub returns-clause-values : goal.returns-clause-values
returns-clause-values c =
    let q = c.args.question.now in
    let entries = upper_bound c.args.sure.now c.args.zero.now (counted (states q) c.args.candidate.now) in
    let table : IsTable q entries c.in_ok-table.table.items =
    subst (λ (candidate : List ℕ). IsTable q (upper_bound c.args.sure.now c.args.zero.now candidate)
    c.in_ok-table.table.items) c.counted_of.ensures c.in_ok-table.ensures in
    let tested : IsTable q entries c.deref.result.now = subst (IsTable q entries) (sym c.deref.ensures.value) table in
    inr (
      c.in_ok-weakest.ensures,
      λ inductive.
          let passed : IsOk c.check_upper.result = c.check_upper.ensures.ok.1
          (tested.units, table-inductive q entries c.deref.result.now c.invariant.ensures tested inductive) in
          search rules,
    )
