-- A formula that is said is denoted.
use Rattle.std.proofs.Common.{◌≡◌, ◌≤◌, inl, inr, ℕ, List, [], ◌∷◌, ◌++◌, length, true, cond, Option, Ok, Err, Result}
use Rattle.std.proofs.Common.{refl, ap, sym, subst, nat_lt}
use Rattle.std.specs.Prelude.{codes}
use Rattle.formula_tokens.specs.declared.fault.FormulaFault.{FormulaFault}
use Rattle.formula_tokens.specs.declared.fault.FormulaCause.TheVariants.{TooLong}
use Rattle.formula_tokens.specs.Fault.{fault_at, ◌>>=◌}
use Rattle.formula_tokens.specs.Laws.{AreTokens}
use Rattle.formula_tokens.specs.Limits.{longest}
use Rattle.formula_tokens.specs.Reading.{next}
use Rattle.formula_tokens.specs.Tokens.{Tokens, Finish, Token, tokens_of}
use Rattle.formula_tokens.proofs.Spans.{Found, spans_append, chosen, bind_ok, next_ok}
use Rattle.formula_tokens.proofs.Cutting.{tokens_cut}
use Rattle.formula_reader.specs.Formula.{State, Tree}
use Rattle.formula_reader.specs.Grammar.{coalition, formula_said}
use Rattle.formula_reader.specs.Rules.{IsCoalition}
use Rattle.formula_reader.proofs.CoalitionsFound.{coalition_found}
use Rattle.formula_reader.proofs.Denoted.{ends_with, formula_denoted}
use Rattle.formula_reader.proofs.Orders.{le_from}
use Rattle.reward_formula.specs.Formula.{RewardTree, AnyTree, OfProbability, OfReward}
use Rattle.reward_formula.specs.Grammar.{Reward, reward, goal, reward_tree, formula_from, begins_reward, of_reward}
use Rattle.reward_formula.specs.Grammar.{of_probability, any_formula, any_said}
use Rattle.reward_formula.specs.Rules.{IsRewardFormula, Denotes}
use Rattle.reward_formula.proofs.RewardsFound.{Spells, reward_found}
use Rattle.reward_formula.proofs.GoalsFound.{IsGoal, goal_found}

-- the tokens of a formula of rewards up to the end of the text
record Whole (ts : Tokens) (f : RewardTree) : Type 0 where
  pub tokens : List (List ℕ)
  pub read : AreTokens ts tokens
  pub formula : IsRewardFormula tokens f

whole_found : (ts : Tokens) (names : Option (List (List ℕ))) (second : Tokens) (r : Reward) (third : Tokens)
    (x : State) → Found IsCoalition ts names second → Found Spells second r third → IsGoal third x
    → Whole ts (reward_tree names r x)
whole_found ts names second r third x team asks g =
    let back = codes "[" ∷ codes "F" ∷ (g.read.goal ++ codes "]" ∷ []) in
    let spans = spans_append team.tokens (asks.tokens ++ back) ts second (Finish g.read.end) team.spans
    (spans_append asks.tokens back second third (Finish g.read.end) asks.spans g.read.spans) in
    record {
      tokens = team.tokens ++ (asks.tokens ++ back);
      read = ends_with (team.tokens ++ (asks.tokens ++ back)) ts g.read.end spans;
      formula = record {
        team = team.tokens;
        asks = asks.tokens;
        goal = g.read.goal;
        whole = refl;
        coalition = team.spells;
        reward = asks.spells;
        state = g.read.state;
        flat = g.flat;
      };
    }

same_tree : (f g : RewardTree) → ◌≡◌ {A = Result RewardTree FormulaFault} (Ok f) (Ok g) → f ≡ g
same_tree f g e = cc e

formula_found : (ts : Tokens) (names : Option (List (List ℕ))) (second : Tokens) (word : Token) (f : RewardTree)
    → Found IsCoalition ts names second → next second ≡ Ok word → begins_reward word ≡ true
    → formula_from names word ≡ Ok f → Whole ts f
formula_found ts names second word f team n begins e =
    let r = bind_ok (reward word) (λ r. goal r.1 >>= λ x. Ok (reward_tree names r.0 x)) f e in
    let g = bind_ok (goal r.value.1) (λ x. Ok (reward_tree names r.value.0 x)) f r.then_ in
    let P : Tokens → Type 0 = λ t. Found Spells t r.value.0 r.value.1 in
    let Q : RewardTree → Type 0 = λ h. Whole ts h in
    subst Q (same_tree (reward_tree names r.value.0 g.value) f g.then_)
    (whole_found ts names second r.value.0 r.value.1 g.value team
    (subst P (sym (next_ok second word n)) (reward_found word r.value.0 r.value.1 begins r.first))
    (goal_found r.value.1 g.value g.first))

-- which formula is read
same_reward : (f g : RewardTree) → ◌≡◌ {A = Result AnyTree FormulaFault} (Ok (OfReward f)) (Ok (OfReward g)) → f ≡ g
same_reward f g e = cc e

same_probability : (f g : Tree)
    → ◌≡◌ {A = Result AnyTree FormulaFault} (Ok (OfProbability f)) (Ok (OfProbability g)) → f ≡ g
same_probability f g e = cc e

of_reward_found : (read : Result RewardTree FormulaFault) (f : RewardTree) → of_reward read ≡ Ok (OfReward f)
    → read ≡ Ok f
of_reward_found (Ok g) f e = ap (λ h. Ok h) (same_reward g f e)
of_reward_found (Err fault) f e = cc e

of_probability_found : (read : Result Tree FormulaFault) (f : Tree) → of_probability read ≡ Ok (OfProbability f)
    → read ≡ Ok f
of_probability_found (Ok g) f e = ap (λ h. Ok h) (same_probability g f e)
of_probability_found (Err fault) f e = cc e

no_probability : (read : Result RewardTree FormulaFault) (f : Tree) → of_reward read ≡ Ok (OfProbability f) → ⊥
no_probability (Ok g) f e = cc e
no_probability (Err fault) f e = cc e

no_reward : (read : Result Tree FormulaFault) (f : RewardTree) → of_probability read ≡ Ok (OfReward f) → ⊥
no_reward (Ok g) f e = cc e
no_reward (Err fault) f e = cc e

-- a text that is read, and its first token behind the coalition
record Begun (text : List ℕ) (ts : Tokens) (tree : AnyTree) : Type 0 where
  pub team : Option (List (List ℕ)) × Tokens
  pub word : Token
  pub coalition_is : coalition ts ≡ Ok team
  pub next_is : next team.1 ≡ Ok word
  pub reads : cond (begins_reward word) (of_reward (formula_from team.0 word)) (of_probability (formula_said text))
      ≡ Ok tree

begun : (text : List ℕ) (ts : Tokens) (tree : AnyTree) → any_formula text ts ≡ Ok tree → Begun text ts tree
begun text ts tree e =
    let a = bind_ok (coalition ts) (λ team. next team.1 >>= λ token.
    cond (begins_reward token) (of_reward (formula_from team.0 token)) (of_probability (formula_said text))) tree e in
    let b = bind_ok (next a.value.1) (λ token. cond (begins_reward token) (of_reward (formula_from a.value.0 token))
    (of_probability (formula_said text))) tree a.then_ in
    record { team = a.value; word = b.value; coalition_is = a.first; next_is = b.first; reads = b.then_ }

any_found : (text : List ℕ) (tree : AnyTree) → length text ≤ longest → any_formula text (tokens_of text) ≡ Ok tree
    → Denotes text tree
any_found text (OfProbability f) short e =
    let b = begun text (tokens_of text) (OfProbability f) e in
    elim (chosen (begins_reward b.word) (of_reward (formula_from b.team.0 b.word))
    (of_probability (formula_said text)) (Ok (OfProbability f)) b.reads) [
      | inl t ↦ absurd (no_probability (formula_from b.team.0 b.word) f t.1)
      | inr t ↦ formula_denoted text f (of_probability_found (formula_said text) f t.1)
    ]
any_found text (OfReward f) short e =
    let b = begun text (tokens_of text) (OfReward f) e in
    elim (chosen (begins_reward b.word) (of_reward (formula_from b.team.0 b.word))
    (of_probability (formula_said text)) (Ok (OfReward f)) b.reads) [
      | inl t ↦
          let found = formula_found (tokens_of text) b.team.0 b.team.1 b.word f
          (coalition_found (tokens_of text) b.team.0 b.team.1 b.coalition_is) b.next_is t.0
          (of_reward_found (formula_from b.team.0 b.word) f t.1) in
          record {
            short = short;
            tokens = found.tokens;
            cut = tokens_cut text found.tokens found.read;
            formula = found.formula;
          }
      | inr t ↦ absurd (no_reward (formula_said text) f t.1)
    ]

-- What is said to be a formula is denoted.
pub any_denoted : (text : List ℕ) (tree : AnyTree) → any_said text ≡ Ok tree → Denotes text tree
unfolding any_said
any_denoted text tree e =
    elim (chosen (nat_lt longest (length text)) (Err (fault_at longest TooLong)) (any_formula text (tokens_of text))
    (Ok tree) e) [
      | inl t ↦ cc t.1
      | inr t ↦ any_found text tree (le_from (length text) longest t.0) t.1
    ]
