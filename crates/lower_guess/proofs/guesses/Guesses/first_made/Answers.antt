use Rattle.std.proofs.Common.{◌≡◌, ℕ, ◌<◌, ◌++◌, List, Bool, length, drop, take, arith, ap, sym, ◌∙◌, subst}
use borrow.Author.Count.{below_more}
use Rattle.std.specs.Prelude.{slice_index}
use Rattle.std.proofs.lemmas.Bool.{both_ways}
use Rattle.std.proofs.lemmas.List.{take_at}
use Rattle.game_model.specs.Query.{states}
use Rattle.game_model.specs.Tables.{IsTable}
use Rattle.lower_guess.specs.LowerGuess.{lesser_step}
use Rattle.lower_guess.specs.inside.Marks.{AreQuiet, AreMarkedFor}
use Rattle.lower_guess.specs.inside.OfGuesses.{entry_of, IsRefusedOf}
use Rattle.lower_guess.proofs.Refused.{IsTable-next, same-stands, changed-refused}
use Rattle.lower_guess.proofs.Marks.{quiet-next}
use Rattle.lower_guess.proofs.guesses.Guesses.first_made.Goals as goal

pub rank-requires-clause-stand : goal.rank-requires-clause-stand
rank-requires-clause-stand c =
    let g = c.args.self.now in
    let table = c.loop-steps.table.items in
    let next = c.in_ok-next.next.items in
    let step : IsTable g.question.now (lesser_step g.question.now (slice_index table)) next =
    rw c.deref.ensures.value at c.in_ok-next.ensures in
    let same : (s : ℕ) → s < length next → slice_index next s ≡ slice_index table s =
    rw (c.deref-in-loop-steps-2.ensures.value, c.deref-in-loop-steps-3.ensures.value) at
    (c.is_same.ensures.0 c.if-is_same.true) in
    same-stands g.question.now g.zero.now (slice_index g.base.now) g.excess g.posed c.loop-steps.steps table next
    c.loop-steps.invariant.table step (λ s inside. same s (omega (arith, inside, step.many)))

pub loop-steps-preserved : goal.loop-steps-preserved
loop-steps-preserved c =
    let g = c.args.self.now in
    let q = g.question.now in
    let h = c.loop-steps.invariant in
    let table = c.loop-steps.table.items in
    let next = c.in_ok-next.next.items in
    let marks : List Bool = c.mark_again.new.marks in
    let step : IsTable q (lesser_step q (slice_index table)) next = rw c.deref.ensures.value at c.in_ok-next.ensures in
    let other : ((s : ℕ) → s < length next → slice_index next s ≡ slice_index table s) → ⊥ =
    rw (c.deref-in-loop-steps-2.ensures.value, c.deref-in-loop-steps-3.ensures.value) at
    (λ (same : (s : ℕ) → s < length c.deref-in-loop-steps-2.result.now
    → slice_index c.deref-in-loop-steps-2.result.now s ≡ slice_index c.deref-in-loop-steps-3.result.now s).
    both_ways c.is_same.result c.if-is_same.false (c.is_same.ensures.1 same)) in
    let many : length marks ≡ states q = c.mark_again.ensures.marks ∙ ap length c.game-in-loop-steps.ensures in
    let marked : AreMarkedFor q.game (slice_index table) (slice_index next) marks =
    rw (c.game-in-loop-steps.ensures, c.deref-in-loop-steps-4.ensures.value, c.deref-in-loop-steps-5.ensures.value) at
    c.mark_again.ensures.marked in
    let all : take c.loop-steps.marks.len (marks ++ drop (length marks) c.loop-steps.marks.items) ≡ marks =
    take_at marks (drop (length marks) c.loop-steps.marks.items) c.loop-steps.marks.len
    (omega (arith, many, h.many, c.loop-steps.marks.ok.0)) in
    record {
      table = IsTable-next q g.zero.now
          (slice_index g.base.now) g.excess g.posed c.loop-steps.steps table next h.table step;
      many = ap length all ∙ many;
      quiet = subst (λ (m : List Bool). AreQuiet q m (slice_index next)) (sym all)
          (quiet-next q table next marks g.posed step marked);
      refused = below_more (IsRefusedOf g) c.loop-steps.steps h.refused
          (changed-refused q (entry_of g c.loop-steps.steps) table next g.posed h.table step
          (λ same. other (λ s inside. same s (omega (arith, inside, step.many)))));
    }

pub returns-clause-found : goal.returns-clause-found
returns-clause-found c j few = c.loop-steps.invariant.refused j (omega (arith, few, c.loop-steps-test.false))
