-- A state formula is flat exactly if none of its tokens begins a formula inside.
use Rattle.std.proofs.Common.{◌≡◌, inl, inr, ℕ, List, [], ◌∷◌, ◌++◌, Bool, true, false, refl, ap, subst}
use Rattle.std.specs.Prelude.{codes, bytes_eq, ◌||◌, ◌&&◌}
use Rattle.std.proofs.lemmas.Bool.{and_from, and_parts}
use Rattle.formula_reader.specs.Formula.{State, is_flat}
use Rattle.formula_tokens.specs.Reading.{is_quoted}
use Rattle.formula_reader.specs.Rules.{between, formula_of, IsState, IsEither, IsBoth, IsUnary, plain_state, implies}
use Rattle.formula_reader.specs.Rules.{plain_either, or, plain_both, and, negation, brackets, everywhere, nowhere}
use Rattle.formula_reader.specs.Rules.{label, inside}
use Rattle.formula_reader.proofs.Beginning.{quoted_begins, BeginsInner, inner_begins}

-- a token of this spelling begins a formula inside
abbrev pub begins : List ℕ → Bool
begins token = bytes_eq token (codes "P") || bytes_eq token (codes "Pmax") || bytes_eq token (codes "Pmin")
    || bytes_eq token (codes "<<")

-- none of the tokens does
abbrev pub NoneBegins : List (List ℕ) → Type 0
NoneBegins [] = Unit {0}
NoneBegins (token ∷ tokens) = (begins token ≡ false) × NoneBegins tokens

pub none_append : (us vs : List (List ℕ)) → NoneBegins us → NoneBegins vs → NoneBegins (us ++ vs)
none_append [] vs a b = b
none_append (u ∷ us) vs a b = (a.0, none_append us vs a.1 b)

pub none_left : (us vs : List (List ℕ)) → NoneBegins (us ++ vs) → NoneBegins us
none_left [] vs a = tt
none_left (u ∷ us) vs a = (a.0, none_left us vs a.1)

pub none_right : (us vs : List (List ℕ)) → NoneBegins (us ++ vs) → NoneBegins vs
none_right [] vs a = a
none_right (u ∷ us) vs a = none_right us vs a.1

-- 1. The tokens of a flat state formula.

none_between : (us : List (List ℕ)) (sign : List ℕ) (vs : List (List ℕ)) → begins sign ≡ false
    → NoneBegins us → NoneBegins vs → NoneBegins (between us sign vs)
none_between us sign vs e a b = none_append us (sign ∷ vs) a (e, b)

none_quoted : (token : List ℕ) → is_quoted token ≡ true → begins token ≡ false
none_quoted token e =
    let q = quoted_begins token e in
    ap begins q.1

mutual
  unary_none : (room : ℕ) (us : List (List ℕ)) (x : State) → IsUnary room us x → is_flat x ≡ true → NoneBegins us
  unary_none _ _ _ (negation room us x d) f = (refl, unary_none room us x d f)
  unary_none _ _ _ (brackets room us x d) f =
      (refl, none_append us (codes ")" ∷ []) (state_none room us x d f) (refl, tt))
  unary_none _ _ _ (everywhere room) f = (refl, tt)
  unary_none _ _ _ (nowhere room) f = (refl, tt)
  unary_none _ _ _ (label room token q) f = (none_quoted token q, tt)
  unary_none _ _ _ (inside room team asks sides g n b c d) f = cc f

  both_none : (room : ℕ) (us : List (List ℕ)) (x : State) → IsBoth room us x → is_flat x ≡ true → NoneBegins us
  both_none _ _ _ (plain_both room us x d) f = unary_none room us x d f
  both_none _ _ _ (and room us vs x y d e) f =
      let parts = and_parts (is_flat x) (is_flat y) f in
      none_between us (codes "&") vs refl (both_none room us x d parts.0) (unary_none room vs y e parts.1)

  either_none : (room : ℕ) (us : List (List ℕ)) (x : State) → IsEither room us x → is_flat x ≡ true → NoneBegins us
  either_none _ _ _ (plain_either room us x d) f = both_none room us x d f
  either_none _ _ _ (or room us vs x y d e) f =
      let parts = and_parts (is_flat x) (is_flat y) f in
      none_between us (codes "|") vs refl (either_none room us x d parts.0) (both_none room vs y e parts.1)

  pub state_none : (room : ℕ) (us : List (List ℕ)) (x : State) → IsState room us x → is_flat x ≡ true → NoneBegins us
  state_none _ _ _ (plain_state room us x d) f = either_none room us x d f
  state_none _ _ _ (implies room us vs x y d e) f =
      let parts = and_parts (is_flat x) (is_flat y) f in
      none_between us (codes "=>") vs refl (state_none room us x d parts.0) (either_none room vs y e parts.1)

-- 2. A state formula of such tokens.

no_inner : (us : List (List ℕ)) → BeginsInner us → NoneBegins us → ⊥
no_inner us b a =
    let P : List (List ℕ) → Type 0 = λ vs. NoneBegins vs in
    elim b [
      | inl p ↦ let t : NoneBegins (codes "P" ∷ p.0) = subst P p.1 a in cc t.0
      | inr p ↦ let t : NoneBegins (codes "<<" ∷ p.0) = subst P p.1 a in cc t.0
    ]

flat_with : (x y : State) → is_flat x ≡ true → is_flat y ≡ true → (is_flat x && is_flat y) ≡ true
flat_with x y a b = and_from (is_flat x) (is_flat y) a b

right_none : (us : List (List ℕ)) (sign : List ℕ) (vs : List (List ℕ)) → NoneBegins (between us sign vs) → NoneBegins vs
right_none us sign vs a = let b = none_right us (sign ∷ vs) a in b.1

mutual
  unary_flat : (room : ℕ) (us : List (List ℕ)) (x : State) → IsUnary room us x → NoneBegins us → is_flat x ≡ true
  unary_flat _ _ _ (negation room us x d) a = unary_flat room us x d a.1
  unary_flat _ _ _ (brackets room us x d) a = state_flat room us x d (none_left us (codes ")" ∷ []) a.1)
  unary_flat _ _ _ (everywhere room) a = refl
  unary_flat _ _ _ (nowhere room) a = refl
  unary_flat _ _ _ (label room token q) a = refl
  unary_flat _ _ _ (inside room team asks sides f n b c d) a = absurd (no_inner (formula_of team asks sides)
      (inner_begins team asks (codes "[" ∷ (sides ++ codes "]" ∷ [])) f.coalition f.bound n b c) a)

  both_flat : (room : ℕ) (us : List (List ℕ)) (x : State) → IsBoth room us x → NoneBegins us → is_flat x ≡ true
  both_flat _ _ _ (plain_both room us x d) a = unary_flat room us x d a
  both_flat _ _ _ (and room us vs x y d e) a =
      flat_with x y (both_flat room us x d (none_left us (codes "&" ∷ vs) a))
      (unary_flat room vs y e (right_none us (codes "&") vs a))

  either_flat : (room : ℕ) (us : List (List ℕ)) (x : State) → IsEither room us x → NoneBegins us → is_flat x ≡ true
  either_flat _ _ _ (plain_either room us x d) a = both_flat room us x d a
  either_flat _ _ _ (or room us vs x y d e) a =
      flat_with x y (either_flat room us x d (none_left us (codes "|" ∷ vs) a))
      (both_flat room vs y e (right_none us (codes "|") vs a))

  pub state_flat : (room : ℕ) (us : List (List ℕ)) (x : State) → IsState room us x → NoneBegins us → is_flat x ≡ true
  state_flat _ _ _ (plain_state room us x d) a = either_flat room us x d a
  state_flat _ _ _ (implies room us vs x y d e) a =
      flat_with x y (state_flat room us x d (none_left us (codes "=>" ∷ vs) a))
      (either_flat room vs y e (right_none us (codes "=>") vs a))
