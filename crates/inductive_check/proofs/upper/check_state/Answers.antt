use Rattle.std.proofs.Common.{arith, refl, sym}
use Rattle.std.specs.Prelude.{slice_index}
use Rattle.inductive_check.proofs.Entries.{all-held, none-held, one-unheld, one-held}
use Rattle.inductive_check.proofs.upper.check_state.Goals as goal

pub returns-in-Some-clause-ok : goal.returns-in-Some-clause-ok
returns-in-Some-clause-ok c = (
  λ ok. (cc ok),
  λ most. absurd (omega (
    arith,
    most,
    one-unheld c.args.question.now (slice_index c.args.upper.now) c.args.state c.invariant.ensures c.requires.state
        (sym c.if-is_goal.ensures, sym c.if-is_dead.ensures)
        (sym c.in-Max.ensures) c.in-Some.choice c.in-Some.ensures.inside c.in-Some.ensures.unheld,
  )),
)

pub returns-in-None-clause-ok : goal.returns-in-None-clause-ok
returns-in-None-clause-ok c = (
  λ ok. all-held c.args.question.now (slice_index c.args.upper.now) c.args.state c.invariant.ensures c.requires.state
      (sym c.if-is_goal.ensures, sym c.if-is_dead.ensures) c.in-None.ensures,
  λ most. refl,
)

pub returns-in-Some-first_held-clause-ok : goal.returns-in-Some-first_held-clause-ok
returns-in-Some-first_held-clause-ok c = (
  λ ok. one-held c.args.question.now (slice_index c.args.upper.now) c.args.state c.invariant.ensures c.requires.state
      (sym c.if-is_goal.ensures, sym c.if-is_dead.ensures) (sym c.in-Min.ensures) c.in-Some-first_held.field-0
      c.in-Some-first_held.ensures.inside c.in-Some-first_held.ensures.held,
  λ most. refl,
)

pub returns-in-None-first_held-clause-ok : goal.returns-in-None-first_held-clause-ok
returns-in-None-first_held-clause-ok c = (
  λ ok. (cc ok),
  λ most. absurd (omega (
    arith,
    most,
    none-held c.args.question.now (slice_index c.args.upper.now) c.args.state c.invariant.ensures c.requires.state
        (sym c.if-is_goal.ensures, sym c.if-is_dead.ensures) c.in-None-first_held.ensures,
  )),
)
