use Rattle.std.proofs.Common.{◌≡◌, ℕ, ◌+◌, ◌<◌, List, [], ◌∷◌, ◌++◌, length, arith, rules}
use Rattle.std.specs.Prelude.{slice_index}
use Rattle.std.proofs.lemmas.Grind.{common_steps}
use Rattle.lower_guess.specs.LowerGuess.{lesser_step}
use Rattle.lower_guess.proofs.lesser.lesser_table.Goals as goal

-- one more entry
each-push : (entries : ℕ → ℕ) (xs : List ℕ) (x n s : ℕ) → length xs ≡ n
    → ((t : ℕ) → t < n → slice_index xs t ≡ entries t) → x ≡ entries n → s < n + 1
    → slice_index (xs ++ x ∷ []) s ≡ entries s
each-push entries xs x n s many each last upto = grind (arith, common_steps)

pub loop-state-preserved : goal.loop-state-preserved
loop-state-preserved c = record {
  many = search rules;
  units = grind (arith, common_steps);
  each = λ s upto. rw c.in_ok-push.ensures.items (each-push
      (lesser_step c.args.question.now (slice_index c.args.table.now)) c.loop-state.next.items c.lesser_entry.result
      c.loop-state.state s c.loop-state.invariant.many c.loop-state.invariant.each c.lesser_entry.ensures.value upto);
}
