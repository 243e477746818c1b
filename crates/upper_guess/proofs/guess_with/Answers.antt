use Rattle.std.proofs.Common.{ℕ, subst, arith}
use borrow.Author.Count.{below_more}
use Rattle.std.specs.Prelude.{slice_index}
use Rattle.upper_guess.specs.Guess.{excess, last_place, AreRefused, IsFirstAt}
use Rattle.upper_guess.proofs.Lists.{IsInductive-list}
use Rattle.upper_guess.proofs.Accepting.{not-all-refused}
use Rattle.upper_guess.proofs.guess_with.Goals as goal

pub inductive_is_high-requires : goal.inductive_is_high-requires
inductive_is_high-requires t c =
    let found : IsFirstAt c.args.question.now c.args.zero.now (slice_index c.args.lower.now) c.excess_at.result
    c.in-Some.table.items = rw c.in-Some.is at c.in_ok-table.ensures.found in
    rw c.deref.ensures.value
    (IsInductive-list c.args.question.now _ c.in-Some.table.items c.invariant.ensures found.entries found.accepted)

pub returns-in-Some-clause-inductive : goal.returns-in-Some-clause-inductive
returns-in-Some-clause-inductive t c =
    let found : IsFirstAt c.args.question.now c.args.zero.now (slice_index c.args.lower.now) c.excess_at.result
    c.in-Some.table.items = rw c.in-Some.is at c.in_ok-table.ensures.found in
    IsInductive-list c.args.question.now _ c.in-Some.table.items c.invariant.ensures found.entries found.accepted

pub loop-place-preserved : goal.loop-place-preserved
loop-place-preserved t c =
    let refused : AreRefused c.args.question.now c.args.zero.now (slice_index c.args.lower.now) c.excess_at.result =
    rw c.in_default.is at c.in_ok-table.ensures.found in
    record {
      witnesses = c.in_ok-table.ensures.witnesses;
      refused =
          below_more (λ i. AreRefused c.args.question.now c.args.zero.now (slice_index c.args.lower.now) (excess i))
          c.loop-place.place c.loop-place.invariant.refused
          (subst (λ (e : ℕ). AreRefused c.args.question.now c.args.zero.now (slice_index c.args.lower.now) e)
          c.excess_at.ensures.value refused);
    }

pub unreachable-requires : goal.unreachable-requires
unreachable-requires t c = not-all-refused c.args.question.now c.args.zero.now (slice_index c.args.lower.now)
    c.invariant.ensures c.requires.zero
    (c.loop-place.invariant.refused last_place (omega (arith, c.loop-place-test.false)))
