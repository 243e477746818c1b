use Rattle.std.proofs.Common.{ℕ, List, subst}
use Rattle.std.specs.Prelude.{slice_index}
use Rattle.fixed_bellman.specs.Given.{IsStepAbove}
use Rattle.fixed_bellman.proofs.Between.{step-exact, step-named}
use Rattle.fixed_bellman.proofs.down.table_step_above.Goals as goal

pub returns-clause-exact : goal.returns-clause-exact
returns-clause-exact c reached =
    let q = c.args.question.now in
    let v = slice_index c.args.table.now in
    let s : ℕ = c.args.state in
    let floor : ℕ = c.args.floor in
    let value : ℕ = c.step_above.result.0 in
    let choice : ℕ = c.step_above.result.1 in
    let e : IsStepAbove q v v s floor value choice =
    subst (λ (t : List ℕ). IsStepAbove q (slice_index t) (slice_index t) s floor value choice) c.new-entries.ensures
    c.step_above.ensures.step in (
      step-exact q v s floor value choice c.invariant.ensures c.requires.state c.requires.free e reached,
      step-named q v s floor value choice c.invariant.ensures c.requires.state c.requires.free e reached,
    )
