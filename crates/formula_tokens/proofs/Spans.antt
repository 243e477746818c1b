-- Tokens at the front of others.
use Rattle.std.proofs.Common.{◌≡◌, ◌∙◌, ◌+◌, ◌⊎◌, inl, inr, ℕ, List, [], ◌∷◌, ◌++◌, length, Bool, true, false, cond}
use Rattle.std.proofs.Common.{Some, None, Result, Ok, Err, refl, ap, sym, subst, arith}
use Rattle.std.specs.Prelude.{bytes_eq}
use Rattle.std.proofs.lemmas.Slice.Eq.{bytes_eq-Decides}
pub use Rattle.numerals.proofs.Grammar.{chosen}
use Rattle.formula_tokens.specs.declared.fault.FormulaFault.{FormulaFault}
use Rattle.formula_tokens.specs.declared.fault.FormulaCause.TheVariants.{Unexpected}
use Rattle.formula_tokens.specs.Fault.{◌>>=◌}
use Rattle.formula_tokens.specs.Tokens.{Tokens, Finish, Broken, Then, Token, count_of}
use Rattle.formula_tokens.specs.Reading.{next, behind, is, fails, follows}

-- from ts on stand these tokens, and then rest
abbrev pub Spans : Tokens → List (List ℕ) → Tokens → Type 0
Spans ts [] rest = ts ≡ rest
Spans ts (u ∷ us) rest = (place : ℕ) × (after : Tokens) × (ts ≡ Then place u after) × Spans after us rest

-- some tokens at the front spell this value
pub record Found {X : Type 0} (Spells : List (List ℕ) → X → Type 0) (ts : Tokens) (x : X) (rest : Tokens) : Type 0 where
  pub tokens : List (List ℕ)
  pub spans : Spans ts tokens rest
  pub spells : Spells tokens x

abbrev pub read : {X : Type 0} → X → Tokens → Result (X × Tokens) FormulaFault
read x rest = Ok (x, rest)

abbrev pub Of : {X : Type 0} → (List (List ℕ) → X → Type 0) → Tokens → Result (X × Tokens) FormulaFault → Type 0
Of Spells ts (Ok r) = Found Spells ts r.0 r.1
Of Spells ts (Err fault) = ⊥

-- one value and what stands behind it, as they are read
pub same_read : {X : Type 0} (Spells : List (List ℕ) → X → Type 0) (ts : Tokens) (x y : X) (us rest : Tokens)
    → Found Spells ts x us → read x us ≡ read y rest → Found Spells ts y rest
same_read {X} Spells ts x y us rest found e =
    let P : Result (X × Tokens) FormulaFault → Type 0 = λ r. Of Spells ts r in
    subst P e found

pub spans_append : (us vs : List (List ℕ)) (ts mid rest : Tokens) → Spans ts us mid → Spans mid vs rest
    → Spans ts (us ++ vs) rest
spans_append [] vs ts mid rest a b = let P : Tokens → Type 0 = λ t. Spans t vs rest in subst P (sym a) b
spans_append (u ∷ us) vs ts mid rest a b = (a.0, a.1, a.2, spans_append us vs a.1 mid rest a.3 b)

-- the place where the tokens may be cut
pub spans_split : (us vs : List (List ℕ)) (ts rest : Tokens) → Spans ts (us ++ vs) rest
    → (mid : Tokens) × Spans ts us mid × Spans mid vs rest
spans_split [] vs ts rest s = (ts, refl, s)
spans_split (u ∷ us) vs ts rest s =
    let more = spans_split us vs s.1 rest s.3 in
    (more.0, (s.0, s.1, s.2, more.1), more.2)

pub spans_count : (us : List (List ℕ)) (ts rest : Tokens) → Spans ts us rest → count_of ts ≡ count_of rest + length us
spans_count [] ts rest s = let e : count_of ts ≡ count_of rest = ap count_of s in omega (arith, e)
spans_count (u ∷ us) ts rest s =
    let e : count_of ts ≡ count_of s.1 + 1 = ap count_of s.2 in
    omega (arith, e, spans_count us s.1 rest s.3)

pub same_bytes : (a b : List ℕ) → bytes_eq a b ≡ true → a ≡ b
same_bytes a b e = (bytes_eq-Decides a b).0 e

-- where both steps are Ok
pub record Both_ok {X Y : Type 0} (r : Result X FormulaFault) (f : X → Result Y FormulaFault) (y : Y) : Type 0 where
  pub value : X
  pub first : r ≡ Ok value
  pub then_ : f value ≡ Ok y

pub bind_ok : {X Y : Type 0} (r : Result X FormulaFault) (f : X → Result Y FormulaFault) (y : Y)
    → (r >>= f) ≡ Ok y → Both_ok r f y
bind_ok (Ok x) f y e = record { value = x; first = refl; then_ = e }
bind_ok (Err fault) f y e = cc

pub next_ok : (ts : Tokens) (token : Token) → next ts ≡ Ok token → ts ≡ Then token.place token.spelling token.after
next_ok (Finish place) token e = cc
next_ok (Broken fault) token e = cc
next_ok (Then place spelling rest) token e =
    let whole : Token = record { place = place; spelling = spelling; after = rest } in
    let same : whole ≡ token = cc in
    ap (λ (t : Token). Then t.place t.spelling t.after) same

pub behind_ok : (spelling : List ℕ) (ts rest : Tokens) → behind spelling ts ≡ Ok rest
    → (place : ℕ) × (ts ≡ Then place spelling rest)
behind_ok spelling ts rest e =
    let b = bind_ok (next ts) (λ token. cond (is token spelling) (Ok token.after) (fails token Unexpected)) rest e in
    elim (chosen (is b.value spelling) (Ok b.value.after) (fails b.value Unexpected) (Ok rest) b.then_) [
      | inl t ↦
          let same : b.value.after ≡ rest = cc t.1 in (
            b.value.place,
            next_ok ts b.value b.first
                ∙ ap (λ s. Then b.value.place s b.value.after) (same_bytes b.value.spelling spelling t.0)
                ∙ ap (λ r. Then b.value.place spelling r) same,
          )
      | inr f ↦ cc f.1
    ]

pub follows_ok : (sign : List ℕ) (ts after : Tokens) → follows sign ts ≡ Some after
    → (place : ℕ) × (ts ≡ Then place sign after)
follows_ok sign (Finish place) after e = cc
follows_ok sign (Broken fault) after e = cc
follows_ok sign (Then place spelling rest) after e =
    elim (chosen (bytes_eq spelling sign) (Some rest) None (Some after) e) [
      | inl t ↦
          let same : rest ≡ after = cc t.1 in
          (place, ap (λ s. Then place s rest) (same_bytes spelling sign t.0) ∙ ap (λ r. Then place sign r) same)
      | inr f ↦ cc f.1
    ]

-- another token stands next than this sign
pub no_sign : (sign first : List ℕ) (others : List (List ℕ)) (ts rest : Tokens) → bytes_eq first sign ≡ false
    → Spans ts (first ∷ others) rest → follows sign ts ≡ None
no_sign sign first others ts rest e s = ap (follows sign) s.2 ∙ ap (λ b. cond b (Some s.1) None) e
