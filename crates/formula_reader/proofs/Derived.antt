-- What is read as a state formula is derived by the rules of the grammar.
use Rattle.std.proofs.Common.{◌≡◌, ◌≤◌, inl, inr, ℕ, zero, suc, List, [], ◌∷◌, ◌++◌, Bool, true, false, cond, Option}
use Rattle.std.proofs.Common.{Some, None, Ok, refl, ap, sym, subst, arith}
use Rattle.std.specs.Prelude.{codes, ◌||◌}
use Rattle.formula_tokens.specs.declared.fault.FormulaCause.TheVariants.{Unexpected}
use Rattle.formula_reader.specs.declared.levels.Level.{Level}
use Rattle.formula_reader.specs.declared.levels.Level.TheVariants.{Implication, Disjunction, Conjunction}
use Rattle.formula_tokens.specs.Fault.{◌>>=◌}
use Rattle.formula_reader.specs.Formula.{State, True, False, Label, Not, And, Or, Implies, Path, Tree, inner_of}
use Rattle.formula_reader.specs.inside.Levels.{operand_of}
use Rattle.formula_tokens.specs.Tokens.{Tokens, Then, Token, count_of}
use Rattle.formula_reader.specs.Grammar.{begins_formula, plain}
use Rattle.formula_tokens.specs.Reading.{Reading, next, behind, is, is_quoted, unquoted, fails}
use Rattle.formula_reader.specs.Grammar.{opens, coalition, inner_bound, tree_with, inner, sides, bracketed, path, unary}
use Rattle.formula_reader.specs.Grammar.{further, joined, both, either, implied, negated, closed}
use Rattle.formula_tokens.specs.Reading.{follows, where_next}
use Rattle.formula_reader.specs.Grammar.{inside_of, nested}
use Rattle.formula_reader.specs.Rules.{between, IsCoalition, IsState, IsEither, IsBoth, IsUnary, IsPath, plain_state}
use Rattle.formula_reader.specs.Rules.{implies, plain_either, or, plain_both, and, negation, brackets, everywhere}
use Rattle.formula_reader.specs.Rules.{nowhere, label, inside}
use Rattle.formula_tokens.proofs.Spans.{Spans, Found, same_read, read, spans_append, spans_count, chosen, bind_ok}
use Rattle.formula_tokens.proofs.Spans.{next_ok, behind_ok, follows_ok, same_bytes}
use Rattle.formula_reader.proofs.CoalitionsFound.{coalition_found}
use Rattle.formula_reader.proofs.BoundsFound.{IsInnerBound, inner_bound_found}
use Rattle.formula_reader.proofs.PathsFound.{path_found}

fewer : (Spells : List (List ℕ) → State → Type 0) (ts : Tokens) (x : State) (rest : Tokens) → Found Spells ts x rest
    → count_of rest ≤ count_of ts
fewer Spells ts x rest found = omega (arith, spans_count found.tokens ts rest found.spans)

-- what further operands make of what was read
further_found : (sign : List ℕ) (join : State → State → State)
    (operand : Reading State) (Whole Part : List (List ℕ) → State → Type 0)
    → ((us vs : List (List ℕ)) (x y : State) → Whole us x → Part vs y → Whole (between us sign vs) (join x y))
    → ((ts : Tokens) (x : State) (rest : Tokens) → operand ts ≡ Ok (x, rest) → Found Part ts x rest)
    → (most : ℕ) (start : Tokens) (left : State) (ts : Tokens) (x : State) (rest : Tokens) → Found Whole start left ts
    → further sign join operand most left ts ≡ Ok (x, rest) → Found Whole start x rest
further_found sign join operand Whole Part step part zero start left ts x rest found e =
    same_read Whole start left x ts rest found e
further_found sign join operand Whole Part step part (suc most) start left ts x rest found e =
    by_sign (λ l t w r. further_found sign join operand Whole Part step part most start l t x rest w r)
    (follows sign ts) refl e
  where
    by_sign : ((l : State) (t : Tokens) → Found Whole start l t → further sign join operand most l t ≡ Ok (x, rest)
        → Found Whole start x rest) → (o : Option Tokens) → follows sign ts ≡ o → where_next o (Ok (left, ts))
        (λ after. operand after >>= λ right. further sign join operand most (join left right.0) right.1) ≡ Ok (x, rest)
        → Found Whole start x rest
    by_sign go_on None none e = same_read Whole start left x ts rest found e
    by_sign go_on (Some after) some e =
        let at = follows_ok sign ts after some in
        let b =
        bind_ok (operand after) (λ right. further sign join operand most (join left right.0) right.1) (x, rest) e in
        let right = part after b.value.0 b.value.1 b.first in
        let spans : Spans ts (sign ∷ right.tokens) b.value.1 = (at.0, after, at.1, right.spans) in
        let whole : Found Whole start (join left b.value.0) b.value.1 = record {
          tokens = between found.tokens sign right.tokens;
          spans = spans_append found.tokens (sign ∷ right.tokens) start ts b.value.1 found.spans spans;
          spells = step found.tokens right.tokens left b.value.0 found.spells right.spells;
        } in
        go_on (join left b.value.0) b.value.1 whole b.then_

joined_found : (sign : List ℕ) (join : State → State → State) (operand : Reading State)
    (Whole Part : List (List ℕ) → State → Type 0) → ((us : List (List ℕ)) (x : State) → Part us x → Whole us x)
    → ((us vs : List (List ℕ)) (x y : State) → Whole us x → Part vs y → Whole (between us sign vs) (join x y))
    → ((ts : Tokens) (x : State) (rest : Tokens) → operand ts ≡ Ok (x, rest) → Found Part ts x rest)
    → (ts : Tokens) (x : State) (rest : Tokens) → joined sign join operand ts ≡ Ok (x, rest) → Found Whole ts x rest
joined_found sign join operand Whole Part base step part ts x rest e =
    let b = bind_ok (operand ts) (λ left. further sign join operand (count_of left.1) left.0 left.1) (x, rest) e in
    let first = part ts b.value.0 b.value.1 b.first in
    let whole : Found Whole ts b.value.0 b.value.1 =
    record { tokens = first.tokens; spans = first.spans; spells = base first.tokens b.value.0 first.spells } in
    further_found sign join operand Whole Part step part
    (count_of b.value.1) ts b.value.0 b.value.1 x rest whole b.then_

-- a token at the front, and what it spells alone
alone : (room : ℕ) (token : Token) (x y : State) (rest : Tokens) → IsUnary room (token.spelling ∷ []) x
    → read x token.after ≡ read y rest → Found (IsUnary room) (Then token.place token.spelling token.after) y rest
alone room token x y rest spells e =
    same_read (IsUnary room) (Then token.place token.spelling token.after) x y token.after rest
    (record { tokens = token.spelling ∷ []; spans = (token.place, token.after, refl, refl); spells = spells }) e

plain_found : (room : ℕ) (token : Token) (x : State) (rest : Tokens) → plain token ≡ Ok (x, rest)
    → Found (IsUnary room) (Then token.place token.spelling token.after) x rest
plain_found room token x rest e =
    elim (chosen (is token (codes "true")) (Ok (True, token.after)) _ (Ok (x, rest)) e) [
      | inl t ↦
          let P : List ℕ → Type 0 = λ s. IsUnary room (s ∷ []) True in
          alone room token True x rest (subst P (sym (same_bytes _ _ t.0)) (everywhere room)) t.1
      | inr t ↦ elim (chosen (is token (codes "false")) (Ok (False, token.after)) _ (Ok (x, rest)) t.1) [
        | inl f ↦
            let P : List ℕ → Type 0 = λ s. IsUnary room (s ∷ []) False in
            alone room token False x rest (subst P (sym (same_bytes _ _ f.0)) (nowhere room)) f.1
        | inr f ↦ elim (chosen (is_quoted token.spelling) (Ok (Label (unquoted token.spelling), token.after))
            (fails token Unexpected) (Ok (x, rest)) f.1) [
              | inl q ↦ alone room token (Label (unquoted token.spelling)) x rest (label room token.spelling q.0) q.1
              | inr q ↦ cc q.1
            ]
      ]
    ]

-- a path between `[` and `]`, with one room less
pub record IsSides (room : ℕ) (us : List (List ℕ)) (p : Path) : Type 0 where
  pub less : ℕ
  pub room_is : room ≡ suc less
  pub sides : List (List ℕ)
  pub whole : us ≡ codes "[" ∷ (sides ++ codes "]" ∷ [])
  pub path : IsPath less sides p.kind p.left p.right

-- what is read behind signs that open is derived
pub record Finds (room : ℕ) : Type 0 where
  pub state : (token : Token) (x : State) (rest : Tokens)
      → opens token ≡ true → (nested room).state token ≡ Ok (x, rest)
      → Found (IsUnary room) (Then token.place token.spelling token.after) x rest
  pub path : (token : Token) (p : Path) (rest : Tokens)
      → is token (codes "[") ≡ true → (nested room).path token ≡ Ok (p, rest)
      → Found (IsSides room) (Then token.place token.spelling token.after) p rest

pub sides_found : (room : ℕ) → Finds room → (ts : Tokens) (p : Path) (rest : Tokens)
    → sides (nested room) ts ≡ Ok (p, rest) → Found (IsSides room) ts p rest
sides_found room finds ts p rest e =
    let b = bind_ok (next ts)
    (λ token. cond (is token (codes "[")) ((nested room).path token) (fails token Unexpected)) (p, rest) e in
    let P : Tokens → Type 0 = λ t. Found (IsSides room) t p rest in
    subst P (sym (next_ok ts b.value b.first)) (elim (chosen (is b.value (codes "[")) ((nested room).path b.value)
    (fails b.value Unexpected) (Ok (p, rest)) b.then_) [
      | inl t ↦ finds.path b.value p rest t.0 t.1
      | inr t ↦ cc t.1
    ])

-- the rule of a formula inside
inside_rule : (room : ℕ) (team asks us : List (List ℕ)) (f : Tree) → IsCoalition team f.coalition
    → IsInnerBound asks f.bound → IsSides room us (record { kind = f.kind; left = f.left; right = f.right })
    → IsUnary room (team ++ (asks ++ us)) (inner_of f)
inside_rule room team asks us f names bound s =
    let P : ℕ → Type 0 = λ r. IsUnary r (team ++ (asks ++ us)) (inner_of f) in
    let Q : List (List ℕ) → Type 0 = λ vs. IsUnary (suc s.less) (team ++ (asks ++ vs)) (inner_of f) in
    subst P (sym s.room_is) (subst Q (sym s.whole) (inside s.less team asks s.sides f names bound.0 bound.1 s.path))

inner_found : (room : ℕ) → Finds room → (ts : Tokens) (x : State) (rest : Tokens)
    → inner (nested room) ts ≡ Ok (x, rest) → Found (IsUnary room) ts x rest
inner_found room finds ts x rest e =
    let a = bind_ok (coalition ts) (λ team. inner_bound team.1
    >>= λ asks. sides (nested room) asks.1 >>= λ p. Ok (inner_of (tree_with team.0 asks.0 p.0), p.1)) (x, rest) e in
    let b = bind_ok (inner_bound a.value.1) (λ asks.
    sides (nested room) asks.1 >>= λ p. Ok (inner_of (tree_with a.value.0 asks.0 p.0), p.1)) (x, rest) a.then_ in
    let c = bind_ok (sides (nested room) b.value.1) (λ p. Ok (inner_of (tree_with a.value.0 b.value.0 p.0), p.1))
    (x, rest) b.then_ in
    let team = coalition_found ts a.value.0 a.value.1 a.first in
    let asks = inner_bound_found a.value.1 b.value.0 b.value.1 b.first in
    let both = sides_found room finds b.value.1 c.value.0 c.value.1 c.first in
    same_read (IsUnary room) ts (inner_of (tree_with a.value.0 b.value.0 c.value.0)) x c.value.1 rest
    (record {
      tokens = team.tokens ++ (asks.tokens ++ both.tokens);
      spans = spans_append team.tokens (asks.tokens ++ both.tokens) ts a.value.1 c.value.1 team.spans
          (spans_append asks.tokens both.tokens a.value.1 b.value.1 c.value.1 asks.spans both.spans);
      spells = inside_rule room team.tokens asks.tokens both.tokens
          (tree_with a.value.0 b.value.0 c.value.0) team.spells asks.spells both.spells;
    })
    c.then_

-- a prefix operator, a formula inside or what stands alone
unary_found : (room : ℕ) → Finds room → (ts : Tokens) (x : State) (rest : Tokens)
    → unary (nested room) ts ≡ Ok (x, rest) → Found (IsUnary room) ts x rest
unary_found room finds ts x rest e =
    let b = bind_ok (next ts) (λ token. cond (opens token) ((nested room).state token)
    (cond (begins_formula token) (inner (nested room) ts) (plain token))) (x, rest) e in
    elim (chosen (opens b.value) ((nested room).state b.value) _ (Ok (x, rest)) b.then_) [
      | inl t ↦
          let P : Tokens → Type 0 = λ t. Found (IsUnary room) t x rest in
          subst P (sym (next_ok ts b.value b.first)) (finds.state b.value x rest t.0 t.1)
      | inr t ↦ elim (chosen (begins_formula b.value) (inner (nested room) ts) (plain b.value) (Ok (x, rest)) t.1) [
        | inl f ↦ inner_found room finds ts x rest f.1
        | inr f ↦
            let P : Tokens → Type 0 = λ t. Found (IsUnary room) t x rest in
            subst P (sym (next_ok ts b.value b.first)) (plain_found room b.value x rest f.1)
      ]
    ]

both_found : (room : ℕ) (operand : Reading State)
    → ((ts : Tokens) (x : State) (rest : Tokens) → operand ts ≡ Ok (x, rest) → Found (IsUnary room) ts x rest)
    → (ts : Tokens) (x : State) (rest : Tokens) → both operand ts ≡ Ok (x, rest) → Found (IsBoth room) ts x rest
both_found room operand part ts x rest e =
    joined_found (codes "&") And operand (IsBoth room) (IsUnary room) (plain_both room) (and room) part ts x rest e

either_found : (room : ℕ) (operand : Reading State)
    → ((ts : Tokens) (x : State) (rest : Tokens) → operand ts ≡ Ok (x, rest) → Found (IsUnary room) ts x rest)
    → (ts : Tokens) (x : State) (rest : Tokens) → either operand ts ≡ Ok (x, rest) → Found (IsEither room) ts x rest
either_found room operand part ts x rest e = joined_found (codes "|") Or (both operand) (IsEither room) (IsBoth room)
    (plain_either room) (or room) (both_found room operand part) ts x rest e

implied_found : (room : ℕ) (operand : Reading State)
    → ((ts : Tokens) (x : State) (rest : Tokens) → operand ts ≡ Ok (x, rest) → Found (IsUnary room) ts x rest)
    → (ts : Tokens) (x : State) (rest : Tokens) → implied operand ts ≡ Ok (x, rest) → Found (IsState room) ts x rest
implied_found room operand part ts x rest e = joined_found (codes "=>") Implies (either operand) (IsState room)
    (IsEither room) (plain_state room) (implies room) (either_found room operand part) ts x rest e

negated_found : (room : ℕ) (token : Token) (x : State) (rest : Tokens) → ((ts : Tokens) (y : State) (after : Tokens)
    → unary (nested room) ts ≡ Ok (y, after) → Found (IsUnary room) ts y after)
    → is token (codes "!") ≡ true → negated (unary (nested room) token.after) ≡ Ok (x, rest)
    → Found (IsUnary (suc room)) (Then token.place token.spelling token.after) x rest
negated_found room token x rest part sign e =
    let b = bind_ok (unary (nested room) token.after) (λ y. Ok (Not y.0, y.1)) (x, rest) e in
    let inner = part token.after b.value.0 b.value.1 b.first in
    same_read (IsUnary (suc room)) (Then token.place token.spelling token.after) (Not b.value.0) x b.value.1 rest
    (record {
      tokens = codes "!" ∷ inner.tokens;
      spans = (token.place, token.after, ap (λ s. Then token.place s token.after) (same_bytes _ _ sign), inner.spans);
      spells = negation room inner.tokens b.value.0 inner.spells;
    })
    b.then_

closed_found : (room : ℕ) (token : Token) (x : State) (rest : Tokens) → ((ts : Tokens) (y : State) (after : Tokens)
    → unary (nested room) ts ≡ Ok (y, after) → Found (IsUnary room) ts y after)
    → is token (codes "(") ≡ true → closed (implied (unary (nested room)) token.after) ≡ Ok (x, rest)
    → Found (IsUnary (suc room)) (Then token.place token.spelling token.after) x rest
closed_found room token x rest part sign e =
    let b = bind_ok (implied (unary (nested room)) token.after)
    (λ y. behind (codes ")") y.1 >>= λ after. Ok (y.0, after)) (x, rest) e in
    let c = bind_ok (behind (codes ")") b.value.1) (λ after. Ok (b.value.0, after)) (x, rest) b.then_ in
    let at = behind_ok (codes ")") b.value.1 c.value c.first in
    let inner = implied_found room (unary (nested room)) part token.after b.value.0 b.value.1 b.first in
    let close : Spans b.value.1 (codes ")" ∷ []) c.value = (at.0, c.value, at.1, refl) in
    same_read (IsUnary (suc room)) (Then token.place token.spelling token.after) b.value.0 x c.value rest
    (record {
      tokens = codes "(" ∷ (inner.tokens ++ codes ")" ∷ []);
      spans = (
        token.place,
        token.after,
        ap (λ s. Then token.place s token.after) (same_bytes _ _ sign),
        spans_append inner.tokens (codes ")" ∷ []) token.after b.value.1 c.value inner.spans close,
      );
      spells = brackets room inner.tokens b.value.0 inner.spells;
    })
    c.then_

-- what isn't `!` is `(`
other_sign : (a b : Bool) → (a || b) ≡ true → a ≡ false → b ≡ true
other_sign true b e f = cc
other_sign false b e f = e

state_opened : (room : ℕ) → Finds room → (token : Token) (x : State) (rest : Tokens)
    → opens token ≡ true → inside_of (nested room) token ≡ Ok (x, rest)
    → Found (IsUnary (suc room)) (Then token.place token.spelling token.after) x rest
state_opened room finds token x rest o e =
    elim (chosen (is token (codes "!")) (negated (unary (nested room) token.after))
    (closed (implied (unary (nested room)) token.after)) (Ok (x, rest)) e) [
      | inl t ↦ negated_found room token x rest (unary_found room finds) t.0 t.1
      | inr t ↦ closed_found room token x rest (unary_found room finds)
          (other_sign (is token (codes "!")) (is token (codes "(")) o t.0) t.1
    ]

path_opened : (room : ℕ) → Finds room → (token : Token) (p : Path) (rest : Tokens)
    → is token (codes "[") ≡ true → bracketed (implied (unary (nested room))) token ≡ Ok (p, rest)
    → Found (IsSides (suc room)) (Then token.place token.spelling token.after) p rest
path_opened room finds token p rest o e =
    let state : Reading State = implied (unary (nested room)) in
    let b = bind_ok (path state token.after) (λ q. behind (codes "]") q.1 >>= λ after. Ok (q.0, after)) (p, rest) e in
    let c = bind_ok (behind (codes "]") b.value.1) (λ after. Ok (b.value.0, after)) (p, rest) b.then_ in
    let at = behind_ok (codes "]") b.value.1 c.value c.first in
    let inner = path_found room state
    (implied_found room (unary (nested room)) (unary_found room finds)) token.after b.value.0 b.value.1 b.first in
    let close : Spans b.value.1 (codes "]" ∷ []) c.value = (at.0, c.value, at.1, refl) in
    same_read (IsSides (suc room)) (Then token.place token.spelling token.after) b.value.0 p c.value rest
    (record {
      tokens = codes "[" ∷ (inner.tokens ++ codes "]" ∷ []);
      spans = (
        token.place,
        token.after,
        ap (λ s. Then token.place s token.after) (same_bytes _ _ o),
        spans_append inner.tokens (codes "]" ∷ []) token.after b.value.1 c.value inner.spans close,
      );
      spells = record { less = room; room_is = refl; sides = inner.tokens; whole = refl; path = inner.spells };
    })
    c.then_

pub finds : (room : ℕ) → Finds room
unfolding nested
finds zero = record { state = λ token x rest o e. cc e; path = λ token p rest o e. cc e }
finds (suc room) = record {
  state = λ token x rest o e. state_opened room (finds room) token x rest o e;
  path = λ token p rest o e. path_opened room (finds room) token p rest o e;
}

-- a state formula that is read is derived
pub state_found : (room : ℕ) (ts : Tokens) (x : State) (rest : Tokens)
    → implied (unary (nested room)) ts ≡ Ok (x, rest) → Found (IsState room) ts x rest
state_found room ts x rest e =
    implied_found room (unary (nested room)) (unary_found room (finds room)) ts x rest e

-- what an operand leaves has no more tokens
pub operand_shortens : (level : Level) (room : ℕ) (ts : Tokens) (x : State) (rest : Tokens)
    → operand_of level (unary (nested room)) ts ≡ Ok (x, rest) → count_of rest ≤ count_of ts
operand_shortens Implication room ts x rest e = fewer (IsEither room) ts x rest
    (either_found room (unary (nested room)) (unary_found room (finds room)) ts x rest e)
operand_shortens Disjunction room ts x rest e =
    fewer (IsBoth room) ts x rest (both_found room (unary (nested room)) (unary_found room (finds room)) ts x rest e)
operand_shortens Conjunction room ts x rest e =
    fewer (IsUnary room) ts x rest (unary_found room (finds room) ts x rest e)
