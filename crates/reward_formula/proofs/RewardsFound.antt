-- A reward that is read is derived by the rules.
use Rattle.std.proofs.Common.{◌≡◌, inl, inr, ℕ, List, [], ◌∷◌, ◌++◌, true, Option, Some, None, Ok, refl, ap}
use Rattle.std.specs.Prelude.{codes}
use Rattle.formula_tokens.specs.declared.fault.FormulaCause.TheVariants.{Unexpected}
use Rattle.formula_tokens.specs.Fault.{◌>>=◌}
use Rattle.formula_tokens.specs.Tokens.{Tokens, Then, Token}
use Rattle.formula_tokens.specs.Reading.{next, behind, is, is_quoted, unquoted, fails, follows, where_next}
use Rattle.formula_tokens.proofs.Spans.{Found, same_read, spans_append, chosen, bind_ok, next_ok, behind_ok}
use Rattle.formula_tokens.proofs.Spans.{follows_ok, same_bytes}
use Rattle.reward_formula.specs.Grammar.{Reward, reward_of, name_behind, quoted, braced, named_bound, named_reward}
use Rattle.reward_formula.specs.Grammar.{bare_bound}
use Rattle.reward_formula.specs.Grammar.{with_name, reward, begins_reward}
use Rattle.reward_formula.specs.Rules.{IsReward}
use Rattle.reward_formula.proofs.BoundsFound.{bare_found, named_found}

abbrev pub Spells : List (List ℕ) → Reward → Type 0
Spells us r = IsReward us r.name r.bound

-- a quoted name and `}`
record IsBraced (us : List (List ℕ)) (name : List ℕ) : Type 0 where
  pub token : List ℕ
  pub whole : us ≡ token ∷ codes "}" ∷ []
  pub quoted : is_quoted token ≡ true
  pub is_name : unquoted token ≡ name

quoted_found : (token : Token) (name : List ℕ) → quoted token ≡ Ok name
    → (is_quoted token.spelling ≡ true) × (unquoted token.spelling ≡ name)
quoted_found token name e =
    elim (chosen (is_quoted token.spelling) (Ok (unquoted token.spelling)) (fails token Unexpected) (Ok name) e) [
      | inl t ↦ (t.0, cc t.1)
      | inr t ↦ cc t.1
    ]

braced_found : (ts : Tokens) (name : List ℕ) (rest : Tokens) → braced ts ≡ Ok (name, rest)
    → Found IsBraced ts name rest
braced_found ts name rest e =
    let a = bind_ok (next ts) (λ token. quoted token >>= λ n. behind (codes "}") token.after
    >>= λ after. Ok (n, after)) (name, rest) e in
    let b = bind_ok (quoted a.value)
    (λ n. behind (codes "}") a.value.after >>= λ after. Ok (n, after)) (name, rest) a.then_ in
    let c = bind_ok (behind (codes "}") a.value.after) (λ after. Ok (b.value, after)) (name, rest) b.then_ in
    let at = behind_ok (codes "}") a.value.after c.value c.first in
    let q = quoted_found a.value b.value b.first in
    same_read IsBraced ts b.value name c.value rest
    (record {
      tokens = a.value.spelling ∷ codes "}" ∷ [];
      spans = (a.value.place, a.value.after, next_ok ts a.value a.first, (at.0, c.value, at.1, refl));
      spells = record { token = a.value.spelling; whole = refl; quoted = q.0; is_name = q.1 };
    })
    c.then_

-- a reward without a name
unnamed_found : (word : Token) (r : Reward) (rest : Tokens) → begins_reward word ≡ true
    → with_name None (bare_bound word) ≡ Ok (r, rest) → Found Spells (Then word.place word.spelling word.after) r rest
unnamed_found word r rest begins e =
    let b = bind_ok (bare_bound word) (λ b. Ok (reward_of None b.0, b.1)) (r, rest) e in
    let found = bare_found word b.value.0 b.value.1 begins b.first in
    same_read Spells (Then word.place word.spelling word.after) (reward_of None b.value.0) r b.value.1
    rest (record { tokens = found.tokens; spans = found.spans; spells = found.spells }) b.then_

-- `R`, `{` and what is read behind them
with_name_found : (word : Token) (place : ℕ) (inside : Tokens) (r : Reward) (rest : Tokens)
    → is word (codes "R") ≡ true → word.after ≡ Then place (codes "{") inside
    → named_reward inside ≡ Ok (r, rest) → Found Spells (Then word.place word.spelling word.after) r rest
with_name_found word place inside r rest w at e =
    let n = bind_ok (braced inside) (λ name. with_name (Some name.0) (named_bound name.1)) (r, rest) e in
    let b = bind_ok (named_bound n.value.1) (λ b. Ok (reward_of (Some n.value.0) b.0, b.1)) (r, rest)
    n.then_ in
    let name = braced_found inside n.value.0 n.value.1 n.first in
    let asks = named_found n.value.1 b.value.0 b.value.1 b.first in
    let q = name.spells in
    same_read Spells (Then word.place word.spelling word.after)
    (reward_of (Some n.value.0) b.value.0) r b.value.1 rest
    (record {
      tokens = codes "R" ∷ codes "{" ∷ (name.tokens ++ asks.tokens);
      spans = (
        word.place,
        word.after,
        ap (λ s. Then word.place s word.after) (same_bytes word.spelling (codes "R") w),
        (
          place,
          inside,
          at,
          spans_append name.tokens asks.tokens inside n.value.1 b.value.1 name.spans asks.spans,
        ),
      );
      spells = record {
        token = q.token;
        asks = asks.tokens;
        whole = ap (λ us. codes "R" ∷ codes "{" ∷ (us ++ asks.tokens)) q.whole;
        quoted = q.quoted;
        is_name = q.is_name;
        bound_is = asks.spells;
      };
    })
    b.then_

pub reward_found : (word : Token) (r : Reward) (rest : Tokens) → begins_reward word ≡ true
    → reward word ≡ Ok (r, rest) → Found Spells (Then word.place word.spelling word.after) r rest
reward_found word r rest begins e = by_name (name_behind word) refl e
  where
    by_name : (o : Option Tokens) → name_behind word ≡ o
        → where_next o (with_name None (bare_bound word)) named_reward ≡ Ok (r, rest)
        → Found Spells (Then word.place word.spelling word.after) r rest
    by_name None none e = unnamed_found word r rest begins e
    by_name (Some inside) some e =
        elim (chosen (is word (codes "R")) (follows (codes "{") word.after) None (Some inside) some) [
          | inl t ↦
              let at = follows_ok (codes "{") word.after inside t.1 in
              with_name_found word at.0 inside r rest t.0 at.1 e
          | inr t ↦ cc t.1
        ]
