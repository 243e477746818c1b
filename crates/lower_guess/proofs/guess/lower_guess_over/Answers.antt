use Rattle.std.proofs.Common.{◌≡◌, ℕ, ◌<◌, true, arith, subst, sym, inr}
use borrow.Author.Count.{below_more}
use Rattle.std.specs.Prelude.{slice_index, slice_index_or, false}
use Rattle.game_model.specs.Query.{states}
use Rattle.game_model.specs.Bounds.{IsNear}
use Rattle.lower_guess.specs.LowerGuess.{excess, AreRefused, IsFirstAt}
use Rattle.rank_certificate.proofs.Nearness.{Ranked-near}
use Rattle.lower_guess.proofs.Refused.{near-zero, raised-above}
use Rattle.lower_guess.proofs.guess.lower_guess_over.Goals as goal

pub returns-in-Some-clause-above : goal.returns-in-Some-clause-above
returns-in-Some-clause-above c s inside =
    let q = c.args.question.now in
    let zero = c.args.zero.now in
    let base = c.args.base.now in
    let some = c.requires.rankable in
    let none : (t : ℕ) → t < states q → slice_index_or zero t false ≡ true → slice_index base t ≡ 0 =
    near-zero q zero (slice_index base) c.invariant.ensures c.requires.zero
    (Ranked-near q base c.args.choices.now some.0 c.invariant.ensures some.1) in
    let found : IsFirstAt q zero (slice_index base) c.excess_at.result c.in-Some.found.values.items =
    rw c.in-Some.is at c.in_ok-found.ensures.found in
    omega (
      arith,
      found.entries.each s inside,
      raised-above q zero base c.args.choices.now some.0 c.excess_at.result c.invariant.ensures some.1 none
          found.steps s inside,
    )

pub returns-in-Some-clause-near : goal.returns-in-Some-clause-near
returns-in-Some-clause-near c =
    subst (λ list. IsNear c.args.question.now (slice_index list)) c.deref.ensures.value c.ranked_is_near.ensures

pub loop-place-preserved : goal.loop-place-preserved
loop-place-preserved c =
    let q = c.args.question.now in
    let zero = c.args.zero.now in
    let base = c.args.base.now in
    let refused : AreRefused q zero (slice_index base) c.excess_at.result =
    rw c.in_default.is at c.in_ok-found.ensures.found in
    below_more (λ i. AreRefused q zero (slice_index base) (excess i)) c.loop-place.place c.loop-place.invariant
    (subst (λ (e : ℕ). AreRefused q zero (slice_index base) e) c.excess_at.ensures refused)

pub returns-clause-guess : goal.returns-clause-guess
returns-clause-guess c = inr (record {
  refused = λ place few. c.loop-place.invariant place (omega (arith, few, c.loop-place-test.false));
  values_are = c.in_ok-from_slice.ensures.items;
  choices_are = c.in_ok-from_slice-2.ensures.items;
  ranks_are = c.in_ok-ranks.ensures.layered;
})

pub returns-clause-near : goal.returns-clause-near
returns-clause-near c = subst (λ list. IsNear c.args.question.now (slice_index list))
    (sym c.in_ok-from_slice.ensures.items) c.ranked_is_near-2.ensures
