-- The first token of a state formula that the rules derive.
use Rattle.std.proofs.Common.{◌≡◌, ◌∙◌, ◌⊎◌, inl, inr, ℕ, List, [], ◌∷◌, ◌++◌, true, false, Option, Some, None, refl}
use Rattle.std.proofs.Common.{ap, sym, subst, arith}
use Rattle.std.specs.Prelude.{codes, bytes_eq}
use Rattle.std.proofs.lemmas.Bool.Decides.{nat_tests}
use Rattle.formula_reader.specs.declared.formula.Bound.{Bound}
use Rattle.formula_reader.specs.declared.formula.Bound.TheVariants.{AtLeast, Above, AtMost, Below, AskMax, AskMin}
use Rattle.formula_reader.specs.Formula.{State}
use Rattle.formula_tokens.specs.Reading.{is_quoted}
use Rattle.formula_reader.specs.Rules.{between, with_commas, formula_of, IsCoalition, IsBound, Compares, IsState}
use Rattle.formula_reader.specs.Rules.{IsEither, IsBoth, IsUnary, plain_state, implies, plain_either, or, plain_both}
use Rattle.formula_reader.specs.Rules.{and}
use Rattle.formula_reader.specs.Rules.{negation, brackets, everywhere, nowhere, label, inside}

pub quoted_begins : (token : List ℕ) → is_quoted token ≡ true → (bytes : List ℕ) × (token ≡ 34 ∷ bytes)
quoted_begins [] e = cc e
quoted_begins (b ∷ bytes) e = let same : b ≡ 34 = grind (arith, nat_tests) in (bytes, ap (λ c. c ∷ bytes) same)

-- The first token of a state formula: no word that begins a path, no `<=`.
pub record Begins (us : List (List ℕ)) : Type 0 where
  pub first : List ℕ
  pub others : List (List ℕ)
  pub whole : us ≡ first ∷ others
  pub no_reach : bytes_eq first (codes "F") ≡ false
  pub no_next : bytes_eq first (codes "X") ≡ false
  pub no_always : bytes_eq first (codes "G") ≡ false
  pub no_bound : bytes_eq first (codes "<=") ≡ false

starts : {us : List (List ℕ)} (first : List ℕ) (others : List (List ℕ)) → us ≡ first ∷ others
    → bytes_eq first (codes "F") ≡ false → bytes_eq first (codes "X") ≡ false → bytes_eq first (codes "G") ≡ false
    → bytes_eq first (codes "<=") ≡ false → Begins us
starts first others whole reach next always bound = record {
  first = first;
  others = others;
  whole = whole;
  no_reach = reach;
  no_next = next;
  no_always = always;
  no_bound = bound;
}

begins_on : (sign : List ℕ) (us vs : List (List ℕ)) → Begins us → Begins (between us sign vs)
begins_on sign us vs b = starts b.first (b.others ++ sign ∷ vs) (ap (λ ts. ts ++ sign ∷ vs) b.whole) b.no_reach
    b.no_next b.no_always b.no_bound

label_begins : (token : List ℕ) → is_quoted token ≡ true → Begins (token ∷ [])
label_begins token e =
    let q = quoted_begins token e in
    let P : List ℕ → Type 0 = λ t. Begins (t ∷ []) in
    subst P (sym q.1) (starts (34 ∷ q.0) [] refl refl refl refl refl)

-- a formula inside begins with `P` or `<<`
abbrev pub BeginsInner : List (List ℕ) → Type 0
BeginsInner us = ((others : List (List ℕ)) × (us ≡ codes "P" ∷ others))
    ⊎ ((others : List (List ℕ)) × (us ≡ codes "<<" ∷ others))

bound_begins : (asks back : List (List ℕ)) (b : Bound) → IsBound asks b → Compares b
    → (others : List (List ℕ)) × (asks ++ back ≡ codes "P" ∷ others)
bound_begins asks back (AtLeast p) d c = (codes ">=" ∷ d.0 ∷ back, ap (λ ts. ts ++ back) d.1)
bound_begins asks back (Above p) d c = (codes ">" ∷ d.0 ∷ back, ap (λ ts. ts ++ back) d.1)
bound_begins asks back (AtMost p) d c = (codes "<=" ∷ d.0 ∷ back, ap (λ ts. ts ++ back) d.1)
bound_begins asks back (Below p) d c = (codes "<" ∷ d.0 ∷ back, ap (λ ts. ts ++ back) d.1)
bound_begins asks back AskMax d c = absurd c
bound_begins asks back AskMin d c = absurd c

pub inner_begins : (team asks back : List (List ℕ)) (names : Option (List (List ℕ))) (b : Bound)
    → IsCoalition team names → IsBound asks b → Compares b → BeginsInner (team ++ (asks ++ back))
inner_begins team asks back None b n d c =
    let first = bound_begins asks back b d c in
    inl (first.0, ap (λ ts. ts ++ (asks ++ back)) n ∙ first.1)
inner_begins team asks back (Some names) b n d c =
    inr ((with_commas names ++ codes ">>" ∷ []) ++ (asks ++ back), ap (λ ts. ts ++ (asks ++ back)) n.0)

inner_is_begun : (us : List (List ℕ)) → BeginsInner us → Begins us
inner_is_begun us b = elim b [
  | inl p ↦ starts (codes "P") p.0 p.1 refl refl refl refl
  | inr t ↦ starts (codes "<<") t.0 t.1 refl refl refl refl
]

mutual
  unary_begins : (room : ℕ) (us : List (List ℕ)) (x : State) → IsUnary room us x → Begins us
  unary_begins _ _ _ (negation room us x d) = starts (codes "!") us refl refl refl refl refl
  unary_begins _ _ _ (brackets room us x d) = starts (codes "(") (us ++ codes ")" ∷ []) refl refl refl refl refl
  unary_begins _ _ _ (everywhere room) = starts (codes "true") [] refl refl refl refl refl
  unary_begins _ _ _ (nowhere room) = starts (codes "false") [] refl refl refl refl refl
  unary_begins _ _ _ (label room token q) = label_begins token q
  unary_begins _ _ _ (inside room team asks sides f n b c d) = inner_is_begun (formula_of team asks sides)
      (inner_begins team asks (codes "[" ∷ (sides ++ codes "]" ∷ [])) f.coalition f.bound n b c)

  both_begins : (room : ℕ) (us : List (List ℕ)) (x : State) → IsBoth room us x → Begins us
  both_begins _ _ _ (plain_both room us x d) = unary_begins room us x d
  both_begins _ _ _ (and room us vs x y d e) = begins_on (codes "&") us vs (both_begins room us x d)

  either_begins : (room : ℕ) (us : List (List ℕ)) (x : State) → IsEither room us x → Begins us
  either_begins _ _ _ (plain_either room us x d) = both_begins room us x d
  either_begins _ _ _ (or room us vs x y d e) = begins_on (codes "|") us vs (either_begins room us x d)

  pub state_begins : (room : ℕ) (us : List (List ℕ)) (x : State) → IsState room us x → Begins us
  state_begins _ _ _ (plain_state room us x d) = either_begins room us x d
  state_begins _ _ _ (implies room us vs x y d e) = begins_on (codes "=>") us vs (state_begins room us x d)
