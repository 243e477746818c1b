-- The tokens of a reward that the rules derive are read.
use Rattle.std.proofs.Common.{◌≡◌, ◌∙◌, ℕ, List, [], ◌∷◌, true, cond, Option, Some, None, Ok, refl, ap, subst}
use Rattle.std.specs.Prelude.{codes}
use Rattle.fractions.specs.Fraction.{Fraction}
use Rattle.formula_tokens.specs.declared.fault.FormulaCause.TheVariants.{Unexpected}
use Rattle.formula_tokens.specs.Fault.{◌>>=◌}
use Rattle.formula_tokens.specs.Tokens.{Tokens, Then, Token}
use Rattle.formula_tokens.specs.Reading.{next, behind, is_quoted, unquoted, fails, follows, where_next}
use Rattle.formula_tokens.proofs.Spans.{Spans}
use Rattle.formula_reader.specs.declared.formula.Comparison.{Comparison}
use Rattle.formula_reader.specs.declared.formula.Comparison.TheVariants.{AtLeast as at_least, Above as above}
use Rattle.formula_reader.specs.declared.formula.Comparison.TheVariants.{AtMost as at_most, Below as below}
use Rattle.reward_formula.specs.declared.formula.RewardBound.{RewardBound}
use Rattle.reward_formula.specs.declared.formula.RewardBound.TheVariants.{AtLeast, Above, AtMost, Below, AskMax, AskMin}
use Rattle.reward_formula.specs.Grammar.{Reward, reward_of, bound_with, compared, asked, bare_bound, named_bound}
use Rattle.reward_formula.specs.Grammar.{with_name, quoted}
use Rattle.reward_formula.specs.Grammar.{braced, named_reward, reward, begins_reward}
use Rattle.reward_formula.specs.Rules.{IsBareComparison, IsNamedReward, IsReward}
use Rattle.reward_formula.proofs.BoundsFound.{sign_of}
use Rattle.reward_formula.proofs.BoundsAgain.{token_with, compared_again, asked_again, named_again}

-- a word that begins a reward, and the reward that is read from it on
pub record RewardStands (r : Reward) (ts rest : Tokens) : Type 0 where
  pub word : Token
  pub at : next ts ≡ Ok word
  pub begins : begins_reward word ≡ true
  pub no_team : follows (codes "<<") ts ≡ None
  pub reads : reward word ≡ Ok (r, rest)

-- 1. Without a name.

bare_compared : (c : Comparison) → ((place : ℕ) (after : Tokens) → follows (codes "{") (Then place (sign_of c) after)
    ≡ None) → (us : List (List ℕ)) (x : Fraction) → IsBareComparison (sign_of c) us x → (ts rest : Tokens)
    → Spans ts us rest → RewardStands (reward_of None (bound_with c x)) ts rest
bare_compared c no_brace us x d ts rest s =
    let P : List (List ℕ) → Type 0 = λ vs. Spans ts vs rest in
    let t : Spans ts (codes "R" ∷ d.0) rest = subst P d.1 s in
    let r = compared_again c d.0 x d.2 t.1 rest t.3 in
    let word = token_with t.0 (codes "R") t.1 in
    record {
      word = word;
      at = ap next t.2;
      begins = refl;
      no_team = ap (follows (codes "<<")) t.2;
      reads = ap (λ o. where_next o (with_name None (bare_bound word)) named_reward)
          (ap (follows (codes "{")) r.at ∙ no_brace r.place r.after)
          ∙ ap (with_name None) (ap (λ a. next a >>= compared) r.at ∙ r.reads);
    }

bare_asked : (b : RewardBound) (word : List ℕ)
    → ((place : ℕ) (after : Tokens) → reward (token_with place word after) ≡ with_name None (asked b after))
    → ((place : ℕ) (after : Tokens) → begins_reward (token_with place word after) ≡ true)
    → ((place : ℕ) (after : Tokens) → follows (codes "<<") (Then place word after) ≡ None)
    → (us : List (List ℕ)) → us ≡ word ∷ codes "=?" ∷ [] → (ts rest : Tokens) → Spans ts us rest
    → RewardStands (reward_of None b) ts rest
bare_asked b word leads begins no_team us d ts rest s =
    let P : List (List ℕ) → Type 0 = λ vs. Spans ts vs rest in
    let t : Spans ts (word ∷ codes "=?" ∷ []) rest = subst P d s in
    record {
      word = token_with t.0 word t.1;
      at = ap next t.2;
      begins = begins t.0 t.1;
      no_team = ap (follows (codes "<<")) t.2 ∙ no_team t.0 t.1;
      reads = leads t.0 t.1 ∙ ap (with_name None) (asked_again b t.1 rest t.3);
    }

-- 2. With a name.

quoted_again : (place : ℕ) (token : List ℕ) (after : Tokens) (name : List ℕ) → is_quoted token ≡ true
    → unquoted token ≡ name → quoted (token_with place token after) ≡ Ok name
quoted_again place token after name q n =
    ap (λ b. cond b (Ok (unquoted token)) (fails (token_with place token after) Unexpected)) q
    ∙ ap (λ (m : List ℕ). Ok m) n

braced_again : (token name : List ℕ) → is_quoted token ≡ true → unquoted token ≡ name → (ts rest : Tokens)
    → Spans ts (token ∷ codes "}" ∷ []) rest → braced ts ≡ Ok (name, rest)
braced_again token name q n ts rest s =
    let close = s.3 in
    ap braced s.2
    ∙ ap (λ r. r >>= λ m. behind (codes "}") s.1 >>= λ after. Ok (m, after)) (quoted_again s.0 token s.1 name q n)
    ∙ ap (λ t. behind (codes "}") t >>= λ after. Ok (name, after)) close.2
    ∙ ap (λ (t : Tokens). Ok (name, t)) close.3

named_stands : (us : List (List ℕ)) (name : List ℕ) (b : RewardBound) → IsNamedReward us name b → (ts rest : Tokens)
    → Spans ts us rest → RewardStands (reward_of (Some name) b) ts rest
named_stands us name b d ts rest s =
    let P : List (List ℕ) → Type 0 = λ vs. Spans ts vs rest in
    let t : Spans ts (codes "R" ∷ codes "{" ∷ d.token ∷ codes "}" ∷ d.asks) rest = subst P d.whole s in
    let brace = t.3 in
    let token = brace.3 in
    let close = token.3 in
    let word = token_with t.0 (codes "R") t.1 in
    let quote : Spans brace.1 (d.token ∷ codes "}" ∷ []) close.1 =
    (token.0, token.1, token.2, (close.0, close.1, close.2, refl)) in
    record {
      word = word;
      at = ap next t.2;
      begins = refl;
      no_team = ap (follows (codes "<<")) t.2;
      reads = ap (λ o. where_next o (with_name None (bare_bound word)) named_reward) (ap (follows (codes "{")) brace.2)
          ∙ ap (λ r. r >>= λ n. with_name (Some n.0) (named_bound n.1))
          (braced_again d.token name d.quoted d.is_name brace.1 close.1 quote)
          ∙ ap (with_name (Some name)) (named_again d.asks b d.bound_is close.1 rest close.3);
    }

pub reward_stands : (us : List (List ℕ)) (name : Option (List ℕ)) (b : RewardBound) → IsReward us name b
    → (ts rest : Tokens) → Spans ts us rest → RewardStands (reward_of name b) ts rest
reward_stands us (Some name) b d ts rest s = named_stands us name b d ts rest s
reward_stands us None (AtLeast x) d ts rest s = bare_compared at_least (λ place after. refl) us x d ts rest s
reward_stands us None (Above x) d ts rest s = bare_compared above (λ place after. refl) us x d ts rest s
reward_stands us None (AtMost x) d ts rest s = bare_compared at_most (λ place after. refl) us x d ts rest s
reward_stands us None (Below x) d ts rest s = bare_compared below (λ place after. refl) us x d ts rest s
reward_stands us None AskMax d ts rest s =
    bare_asked AskMax (codes "Rmax") (λ place after. refl) (λ place after. refl) (λ place after. refl) us d ts rest s
reward_stands us None AskMin d ts rest s =
    bare_asked AskMin (codes "Rmin") (λ place after. refl) (λ place after. refl) (λ place after. refl) us d ts rest s
