use Rattle.std.proofs.Common.{◌≡◌, ℕ, ◌+◌, ◌<◌, List, [], ◌∷◌, ◌++◌, length, get_or, arith, ap, subst, sym, ◌∙◌}
use Rattle.std.proofs.Common.{below_more, Option, None}
use Rattle.std.specs.Prelude.{slice_index, slice_index_or}
use Rattle.std.proofs.lemmas.List.{length_push, get_or_push, get_or_append_left}
use Rattle.inductive_check.specs.Replies.{IsFirstReply}
use Rattle.inductive_check.proofs.reply.replies.Goals as goal

-- one more reply
each-more : (P : ℕ → Option ℕ → Type 0) (xs : List (Option ℕ)) (y : Option ℕ) (n : ℕ) → length xs ≡ n
    → ((s : ℕ) → s < n → P s (get_or xs s None)) → P n y → (s : ℕ) → s < n + 1 → P s (get_or (xs ++ y ∷ []) s None)
each-more P xs y n many each last =
    below_more (λ s. P s (get_or (xs ++ y ∷ []) s None)) n
    (λ s less. subst (P s) (sym (get_or_append_left xs (y ∷ []) None s (omega (arith, less, many)))) (each s less))
    (subst (P n) (sym (get_or_push xs y None n many)) last)

pub loop-state-preserved : goal.loop-state-preserved
loop-state-preserved c =
    let q = c.args.question.now in
    let v = slice_index c.args.upper.now in
    let pushed : c.push.new.self.items ≡ c.loop-state.replies.items ++ c.reply_of.result ∷ [] =
    c.in_ok-push.ensures.items in
    record {
      as_many = ap length pushed ∙ length_push c.loop-state.replies.items c.reply_of.result
          ∙ ap (λ n. n + 1) c.loop-state.invariant.as_many;
      each = subst (λ (xs : List (Option ℕ)).
          (s : ℕ) → s < c.loop-state.state + 1 → IsFirstReply q v s (slice_index_or xs s None)) (sym pushed)
          (each-more (λ s reply. IsFirstReply q v s reply) c.loop-state.replies.items c.reply_of.result
          c.loop-state.state c.loop-state.invariant.as_many c.loop-state.invariant.each c.reply_of.ensures);
    }
