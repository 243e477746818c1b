-- One stretch of states after another.
use Rattle.std.proofs.Common.{◌≡◌, ℕ, ◌+◌, ◌≤◌, Bool, List, arith, sym, ◌∙◌, le_trans, inl, inr, subst}
use Rattle.std.proofs.lemmas.Bool.{cases_lt}
use Rattle.game_model.specs.Query.{Query, IsQuery}
use Rattle.game_model.specs.Rounded.{down_step}
use Rattle.step_core.specs.Word.{value_at}
use Rattle.value_words.specs.Passes.{PassSeat, GrewSeat, LookedSeat}
use Rattle.value_words.proofs.Grown.{grew-twice, step-rises}
use Rattle.predecessors.specs.Marks.{IsMarked}
use Rattle.round_workers.specs.Share.{IsSwept}

-- two stretches, one behind the other
pub swept-twice : (q : Query) (marks : List Bool) (low middle high : ℕ) (a b c : PassSeat) (m n : ℕ) → IsQuery q
    → IsSwept q marks 1 low middle a b m → IsSwept q marks 1 middle high b c n → IsSwept q marks 1 low high a c (m + n)
swept-twice q marks low middle high a b c m n posed h k =
    let h_won = h.won in
    let k_won = k.won in
    let h_few = h.few in
    let k_few = k.few in
    record {
      grew = grew-twice a b c h.grew k.grew;
      step = λ s from to marked. elim (cases_lt s middle) [
        | inl less ↦ le_trans (h.step s from less marked) (k.grew.up s)
        | inr past ↦ le_trans (step-rises q a b s posed h.grew) (k.step s past to marked)
      ];
      won = omega arith;
      few = omega arith;
      parts = λ enough. let before = h.parts enough in k.parts (omega arith) ∙ before;
    }

-- one state, of which it is known whether an exchange won
pub swept-one : (q : Query) (marks : List Bool) (i n : ℕ) (a b : PassSeat) → GrewSeat a b
    → (IsMarked marks i → down_step q (value_at a.me.0.seen) i ≤ value_at b.me.0.seen i) → b.me.0.won ≡ a.me.0.won + n
    → n ≤ 1 → b.me.0.parts ≡ a.me.0.parts → IsSwept q marks 1 i (i + 1) a b n
swept-one q marks i n a b grew step won few parts = record {
  grew = grew;
  step = λ s from to marked. let here : i ≡ s = omega arith in
      subst (λ k. down_step q (value_at a.me.0.seen) k ≤ value_at b.me.0.seen k) here
      (step (subst (λ k. IsMarked marks k) (sym here) marked));
  won = won;
  few = omega arith;
  parts = λ _. parts;
}

-- a stretch, after words were looked at
pub swept-looked : (q : Query) (marks : List Bool) (low high : ℕ) (a b c : PassSeat) (n : ℕ) → IsQuery q
    → LookedSeat a b → IsSwept q marks 1 low high b c n → IsSwept q marks 1 low high a c n
swept-looked q marks low high a b c n posed h k =
    let h_won = h.won in
    let k_won = k.won in
    record {
      grew = grew-twice a b c h.grew k.grew;
      step = λ s from to marked. le_trans (step-rises q a b s posed h.grew) (k.step s from to marked);
      won = omega arith;
      few = k.few;
      parts = λ enough. let before = h.parts in k.parts (omega arith) ∙ before;
    }
