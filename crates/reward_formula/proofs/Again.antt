-- What the rules derive is read.
use Rattle.std.proofs.Common.{◌≡◌, ◌∙◌, inl, inr, ℕ, List, [], ◌∷◌, ◌++◌, length, true, false, cond, Option}
use Rattle.std.proofs.Common.{Result, Ok, Err, refl, ap, sym, subst}
use Rattle.std.specs.Prelude.{codes}
use Rattle.formula_tokens.specs.declared.fault.FormulaFault.{FormulaFault}
use Rattle.formula_tokens.specs.declared.fault.FormulaCause.TheVariants.{TooLong, Unexpected}
use Rattle.formula_tokens.specs.Fault.{fault_at, ◌>>=◌}
use Rattle.formula_tokens.specs.Laws.{AreTokens}
use Rattle.formula_tokens.specs.Limits.{longest}
use Rattle.formula_tokens.specs.Reading.{next, is, fails}
use Rattle.formula_tokens.specs.Tokens.{Tokens, Finish, Token, tokens_of}
use Rattle.formula_tokens.proofs.Spans.{Spans, spans_split, chosen, bind_ok, same_bytes}
use Rattle.formula_tokens.proofs.Cutting.{cut_read}
use Rattle.formula_reader.specs.declared.formula.Bound.{Bound}
use Rattle.formula_reader.specs.declared.formula.Bound.TheVariants.{AskMax, AskMin}
use Rattle.formula_reader.specs.Formula.{Tree}
use Rattle.formula_reader.specs.Grammar.{coalition, comparison, asked, bound, behind_bound, formula, formula_said}
use Rattle.formula_reader.proofs.Again.{spans_all, formula_said_again}
use Rattle.formula_reader.proofs.HeadsAgain.{coalition_again}
use Rattle.formula_reader.proofs.Orders.{not_above}
use Rattle.reward_formula.specs.Formula.{RewardTree, AnyTree, OfProbability, OfReward}
use Rattle.reward_formula.specs.Grammar.{reward_of, goal, reward_tree, formula_from, begins_reward, of_reward}
use Rattle.reward_formula.specs.Grammar.{of_probability}
use Rattle.reward_formula.specs.Grammar.{any_formula, any_said, is_of_reward, is_reward_next}
use Rattle.reward_formula.specs.Rules.{IsRewardFormula, DenotesReward, Denotes}
use Rattle.reward_formula.proofs.RewardsAgain.{reward_stands}
use Rattle.reward_formula.proofs.GoalsAgain.{goal_again}
use Rattle.reward_formula.proofs.Before.{bound_from, said_tokens, others_before}

-- 1. A formula of rewards.

-- the word that begins the reward, and what is read from it on
record Stands (ts : Tokens) (f : RewardTree) : Type 0 where
  pub second : Tokens
  pub word : Token
  pub team : coalition ts ≡ Ok (f.coalition, second)
  pub at : next second ≡ Ok word
  pub begins : begins_reward word ≡ true
  pub reads : formula_from f.coalition word ≡ Ok f

formula_stands : (us : List (List ℕ)) (f : RewardTree) → IsRewardFormula us f → (ts : Tokens) → AreTokens ts us
    → Stands ts f
formula_stands us f d ts a =
    let all = spans_all us ts a in
    let back = codes "[" ∷ codes "F" ∷ (d.goal ++ codes "]" ∷ []) in
    let P : List (List ℕ) → Type 0 = λ vs. Spans ts vs (Finish all.0) in
    let s : Spans ts (d.team ++ (d.asks ++ back)) (Finish all.0) = subst P d.whole all.1 in
    let team = spans_split d.team (d.asks ++ back) ts (Finish all.0) s in
    let asks = spans_split d.asks back team.0 (Finish all.0) team.2 in
    let r = reward_stands d.asks f.name f.bound d.reward team.0 asks.0 asks.1 in
    record {
      second = team.0;
      word = r.word;
      team = coalition_again d.team f.coalition d.coalition ts team.0 team.1 r.no_team;
      at = r.at;
      begins = r.begins;
      reads = ap (λ x. x >>= λ q. goal q.1 >>= λ y. Ok (reward_tree f.coalition q.0 y)) r.reads
          ∙ ap (λ x. x >>= λ y. Ok (reward_tree f.coalition (reward_of f.name f.bound) y))
          (goal_again d.goal f.goal d.state d.flat asks.0 all.0 asks.2);
    }

reward_again : (text : List ℕ) (f : RewardTree) → DenotesReward text f
    → any_formula text (tokens_of text) ≡ Ok (OfReward f)
reward_again text f d =
    let s = formula_stands d.tokens f d.formula (tokens_of text) (cut_read text d.tokens d.cut 0) in
    let made : Option (List (List ℕ)) → Token → Result AnyTree FormulaFault = λ names token.
    cond (begins_reward token) (of_reward (formula_from names token)) (of_probability (formula_said text)) in
    ap (λ r. r >>= λ team. next team.1 >>= λ token. made team.0 token) s.team
    ∙ ap (λ r. r >>= λ token. made f.coalition token) s.at
    ∙ ap (λ b. cond b (of_reward (formula_from f.coalition s.word)) (of_probability (formula_said text))) s.begins
    ∙ ap of_reward s.reads

-- 2. A formula of probability.

not_reward : (word : Token) (spelling : List ℕ) → is word spelling ≡ true
    → ((place : ℕ) (after : Tokens)
    → begins_reward (record { place = place; spelling = spelling; after = after }) ≡ false)
    → begins_reward word ≡ false
not_reward word spelling e other =
    let P : List ℕ → Type 0 =
    λ s. begins_reward (record { place = word.place; spelling = s; after = word.after }) ≡ false in
    subst P (sym (same_bytes word.spelling spelling e)) (other word.place word.after)

-- a bound on a probability begins with no word of rewards
bound_begins : (word : Token) (b : Bound) (rest : Tokens) → bound_from word ≡ Ok (b, rest)
    → begins_reward word ≡ false
bound_begins word b rest e =
    elim (chosen (is word (codes "P")) (comparison word.after) _ (Ok (b, rest)) e) [
      | inl t ↦ not_reward word (codes "P") t.0 (λ place after. refl)
      | inr t ↦ elim (chosen (is word (codes "Pmax")) (asked AskMax word.after) _ (Ok (b, rest)) t.1) [
        | inl t ↦ not_reward word (codes "Pmax") t.0 (λ place after. refl)
        | inr t ↦ elim (chosen (is word (codes "Pmin")) (asked AskMin word.after) (fails word Unexpected)
            (Ok (b, rest)) t.1) [
              | inl t ↦ not_reward word (codes "Pmin") t.0 (λ place after. refl)
              | inr t ↦ cc t.1
            ]
      ]
    ]

formula_begins : (ts : Tokens) (f : Tree) → formula ts ≡ Ok f → is_of_reward ts ≡ false
formula_begins ts f e =
    let a = bind_ok (coalition ts) (λ team. bound team.1 >>= λ asks. behind_bound team.0 asks.0 asks.1) f e in
    let b = bind_ok (bound a.value.1) (λ asks. behind_bound a.value.0 asks.0 asks.1) f a.then_ in
    let c = bind_ok (next a.value.1) bound_from b.value b.first in
    ap (λ r. is_reward_next (r >>= λ team. next team.1)) a.first
    ∙ ap is_reward_next c.first ∙ bound_begins c.value b.value.0 b.value.1 c.then_

-- What is denoted is said.
pub any_again : (text : List ℕ) (tree : AnyTree) → Denotes text tree → any_said text ≡ Ok tree
unfolding any_said
any_again text (OfReward f) d =
    ap (λ b. cond b (Err (fault_at longest TooLong)) (any_formula text (tokens_of text)))
    (not_above (length text) longest d.short)
    ∙ reward_again text f d
any_again text (OfProbability f) d =
    let said = formula_said_again text f d in
    let short = said_tokens text (not_above (length text) longest d.short) in
    let other = formula_begins (tokens_of text) f (sym short ∙ said) in
    others_before text other ∙ ap of_probability said
