-- A path that is read is derived by the rules.
use Rattle.std.proofs.Common.{◌≡◌, ◌∙◌, inl, inr, ℕ, List, [], ◌∷◌, ◌++◌, true, cond, nat_lt, Option, Some, None, Ok}
use Rattle.std.proofs.Common.{refl, ap, sym, subst}
use Rattle.std.specs.Prelude.{codes}
use Rattle.text_lines.specs.Text.{number_of}
use Rattle.formula_tokens.specs.declared.fault.FormulaCause.TheVariants.{BadSteps, Unexpected}
use Rattle.formula_reader.specs.declared.formula.PathKind.{PathKind}
use Rattle.formula_reader.specs.declared.formula.PathKind.TheVariants.{Until, Within, Next, Always}
use Rattle.formula_tokens.specs.Fault.{◌>>=◌}
use Rattle.formula_reader.specs.Formula.{State, True, Path}
use Rattle.formula_reader.specs.Limits.{most_steps}
use Rattle.formula_tokens.specs.Tokens.{Tokens, Then, Token}
use Rattle.formula_reader.specs.Grammar.{steps_of}
use Rattle.formula_tokens.specs.Reading.{Reading, next, behind, is, is_number, fails, follows, where_next}
use Rattle.formula_reader.specs.Grammar.{steps, within, right_side, reached, path}
use Rattle.formula_reader.specs.Rules.{between, IsState, IsSteps, IsPath, reach, reach_within, until, until_within}
use Rattle.formula_reader.specs.Rules.{next as next_path, always}
use Rattle.formula_tokens.proofs.Spans.{Spans, Found, same_read, spans_append, chosen, bind_ok, next_ok, behind_ok}
use Rattle.formula_tokens.proofs.Spans.{follows_ok, same_bytes}
use Rattle.formula_reader.proofs.Orders.{le_from}
use Rattle.formula_reader.proofs.PathsAgain.{path_of}

abbrev pub Spells : ℕ → List (List ℕ) → Path → Type 0
Spells room us p = IsPath room us p.kind p.left p.right

-- what is read as a state formula is derived
abbrev pub FindsStates : ℕ → Reading State → Type 0
FindsStates room state =
    (ts : Tokens) (x : State) (rest : Tokens) → state ts ≡ Ok (x, rest) → Found (IsState room) ts x rest

-- 1. Deadlines.

steps_found : (token : Token) (k : ℕ) → steps token ≡ Ok k → IsSteps token.spelling k
steps_found token k e =
    elim (chosen (is_number token.spelling) (steps_of token (number_of token.spelling))
    (fails token Unexpected) (Ok k) e) [
      | inr f ↦ cc f.1
      | inl t ↦ by_number (number_of token.spelling) refl t.1
    ]
  where
    by_number : (said : Option ℕ) → number_of token.spelling ≡ said → steps_of token said ≡ Ok k
        → IsSteps token.spelling k
    by_number None is e = cc e
    by_number (Some n) is e =
        elim (chosen (nat_lt most_steps n) (fails token BadSteps) (Ok n) (Ok k) e) [
          | inl t ↦ cc t.1
          | inr t ↦
              let same : n ≡ k = cc t.1 in
              let P : ℕ → Type 0 = λ m. IsSteps token.spelling m in
              subst P same (record { value = is; small = le_from n most_steps t.0 })
        ]

-- one token that is a number of steps
record IsBounded (us : List (List ℕ)) (kind : PathKind) : Type 0 where
  pub token : List ℕ
  pub steps : ℕ
  pub whole : us ≡ token ∷ []
  pub within : kind ≡ Within steps
  pub is : IsSteps token steps

within_found : (ts : Tokens) (kind : PathKind) (rest : Tokens) → within ts ≡ Ok (kind, rest)
    → Found IsBounded ts kind rest
within_found ts kind rest e =
    let b = bind_ok (next ts) (λ token. steps token >>= λ k. Ok (Within k, token.after)) (kind, rest) e in
    let c = bind_ok (steps b.value) (λ k. Ok (Within k, b.value.after)) (kind, rest) b.then_ in
    same_read IsBounded ts (Within c.value) kind b.value.after rest
    (record {
      tokens = b.value.spelling ∷ [];
      spans = (b.value.place, b.value.after, next_ok ts b.value b.first, refl);
      spells = record {
        token = b.value.spelling;
        steps = c.value;
        whole = refl;
        within = refl;
        is = steps_found b.value c.value c.first;
      };
    })
    c.then_

-- 2. The right side.

right_found : (room : ℕ) (state : Reading State) → FindsStates room state
    → (kind : PathKind) (x : State) (Whole : List (List ℕ) → Path → Type 0)
    → ((us : List (List ℕ)) (y : State) → IsState room us y → Whole us (path_of kind x y))
    → (ts : Tokens) (p : Path) (rest : Tokens) → right_side state kind x ts ≡ Ok (p, rest) → Found Whole ts p rest
right_found room state found kind x Whole spells ts p rest e =
    let b = bind_ok (state ts) (λ right. Ok (path_of kind x right.0, right.1)) (p, rest) e in
    let right = found ts b.value.0 b.value.1 b.first in
    same_read Whole ts (path_of kind x b.value.0) p b.value.1 rest
    (record { tokens = right.tokens; spans = right.spans; spells = spells right.tokens b.value.0 right.spells }) b.then_

-- what stands behind `F` or `U` makes such a path
record Reaches (room : ℕ) (x : State) (Whole : List (List ℕ) → Path → Type 0) : Type 0 where
  pub open_ : (us : List (List ℕ)) (y : State) → IsState room us y → Whole us (path_of Until x y)
  pub bounded : (token : List ℕ) (us : List (List ℕ)) (k : ℕ) (y : State) → IsSteps token k → IsState room us y
      → Whole (codes "<=" ∷ token ∷ us) (path_of (Within k) x y)

reached_found : (room : ℕ) (state : Reading State) → FindsStates room state
    → (x : State) (Whole : List (List ℕ) → Path → Type 0) → Reaches room x Whole
    → (ts : Tokens) (p : Path) (rest : Tokens) → reached state x ts ≡ Ok (p, rest) → Found Whole ts p rest
reached_found room state found x Whole r ts p rest e = by_sign (follows (codes "<=") ts) refl e
  where
    by_sign : (o : Option Tokens) → follows (codes "<=") ts ≡ o
        → (where_next o (Ok (Until, ts)) within >>= λ kind. right_side state kind.0 x kind.1) ≡ Ok (p, rest)
        → Found Whole ts p rest
    by_sign None none e = right_found room state found Until x Whole r.open_ ts p rest e
    by_sign (Some after) some e =
        let at = follows_ok (codes "<=") ts after some in
        let b = bind_ok (within after) (λ kind. right_side state kind.0 x kind.1) (p, rest) e in
        let w = within_found after b.value.0 b.value.1 b.first in
        let n = w.spells in
        let Behind : List (List ℕ) → Path → Type 0 = λ us q. Whole (codes "<=" ∷ (w.tokens ++ us)) q in
        let P : List (List ℕ) → PathKind → Type 0 = λ vs kind.
        (us : List (List ℕ)) (y : State) → IsState room us y → Whole (codes "<=" ∷ (vs ++ us)) (path_of kind x y) in
        let Q : PathKind → Type 0 = λ kind. P w.tokens kind in
        let R : List (List ℕ) → Type 0 = λ vs. P vs (Within n.steps) in
        let spells : Q b.value.0 =
        subst Q (sym n.within) (subst R (sym n.whole) (λ us y d. r.bounded n.token us n.steps y n.is d)) in
        let inner = right_found room state found b.value.0 x Behind spells b.value.1 p rest b.then_ in
        record {
          tokens = codes "<=" ∷ (w.tokens ++ inner.tokens);
          spans = (at.0, after, at.1, spans_append w.tokens inner.tokens after b.value.1 rest w.spans inner.spans);
          spells = inner.spells;
        }

-- 3. Paths.

-- a word that begins a path, and what is read behind it
word_found : (room : ℕ) (word : List ℕ) (ts : Tokens) (token : Token) (p : Path) (rest : Tokens)
    → next ts ≡ Ok token → is token word ≡ true → Found (λ us q. Spells room (word ∷ us) q) token.after p rest
    → Found (Spells room) ts p rest
word_found room word ts token p rest n w behind_it = record {
  tokens = word ∷ behind_it.tokens;
  spans = (
    token.place,
    token.after,
    next_ok ts token n ∙ ap (λ s. Then token.place s token.after) (same_bytes _ _ w),
    behind_it.spans,
  );
  spells = behind_it.spells;
}

until_found : (room : ℕ) (state : Reading State) → FindsStates room state → (ts : Tokens) (p : Path) (rest : Tokens)
    → (state ts >>= λ left. behind (codes "U") left.1 >>= λ after. reached state left.0 after) ≡ Ok (p, rest)
    → Found (Spells room) ts p rest
until_found room state found ts p rest e =
    let b =
    bind_ok (state ts) (λ left. behind (codes "U") left.1 >>= λ after. reached state left.0 after) (p, rest) e in
    let c = bind_ok (behind (codes "U") b.value.1) (λ after. reached state b.value.0 after) (p, rest) b.then_ in
    let left = found ts b.value.0 b.value.1 b.first in
    let at = behind_ok (codes "U") b.value.1 c.value c.first in
    let Whole : List (List ℕ) → Path → Type 0 = λ us q. Spells room (between left.tokens (codes "U") us) q in
    let reaches : Reaches room b.value.0 Whole = record {
      open_ = λ us y d. until room left.tokens us b.value.0 y left.spells d;
      bounded = λ token us k y n d. until_within room left.tokens token us k b.value.0 y left.spells n d;
    } in
    let right = reached_found room state found b.value.0 Whole reaches c.value p rest c.then_ in
    let behind_left : Spans b.value.1 (codes "U" ∷ right.tokens) rest = (at.0, c.value, at.1, right.spans) in
    record {
      tokens = between left.tokens (codes "U") right.tokens;
      spans = spans_append left.tokens (codes "U" ∷ right.tokens) ts b.value.1 rest left.spans behind_left;
      spells = right.spells;
    }

pub path_found : (room : ℕ) (state : Reading State) → FindsStates room state → (ts : Tokens) (p : Path) (rest : Tokens)
    → path state ts ≡ Ok (p, rest) → Found (Spells room) ts p rest
path_found room state found ts p rest e =
    let left = state ts >>= λ left. behind (codes "U") left.1 >>= λ after. reached state left.0 after in
    let b = bind_ok (next ts) (λ token. cond (is token (codes "F")) (reached state True token.after)
    (cond (is token (codes "X")) (right_side state Next True token.after)
    (cond (is token (codes "G")) (right_side state Always True token.after) left))) (p, rest) e in
    elim (chosen (is b.value (codes "F")) (reached state True b.value.after) _ (Ok (p, rest)) b.then_) [
      | inl t ↦ word_found room (codes "F") ts b.value p rest b.first t.0 (reached_found room state found True _
          (record { open_ = reach room; bounded = reach_within room }) b.value.after p rest t.1)
      | inr t ↦ elim (chosen (is b.value (codes "X")) (right_side state Next True b.value.after) _ (Ok (p, rest)) t.1) [
        | inl t ↦ word_found room (codes "X") ts b.value p rest b.first t.0
            (right_found room state found Next True _ (next_path room) b.value.after p rest t.1)
        | inr t ↦ elim (chosen (is b.value (codes "G")) (right_side state Always True b.value.after) left
            (Ok (p, rest)) t.1) [
              | inl t ↦ word_found room (codes "G") ts b.value p rest b.first t.0
                  (right_found room state found Always True _ (always room) b.value.after p rest t.1)
              | inr t ↦ until_found room state found ts p rest t.1
            ]
      ]
    ]
