-- The tokens of a printed coalition, bound and path are derived by the rules.
use Rattle.std.proofs.Common.{◌∙◌, ℕ, List, [], ◌∷◌, ◌++◌, Option, Some, None, refl, ap, sym, subst, append_assoc}
use Rattle.std.specs.Prelude.{codes, decimal}
use Rattle.std.proofs.lemmas.List.Elements.{All-weaker}
use Rattle.fractions.specs.Fraction.{Fraction}
use Rattle.formula_reader.specs.declared.formula.Bound.{Bound}
use Rattle.formula_reader.specs.declared.formula.Bound.TheVariants.{AtLeast, Above, AtMost, Below, AskMax, AskMin}
use Rattle.formula_reader.specs.declared.formula.PathKind.{PathKind}
use Rattle.formula_reader.specs.declared.formula.PathKind.TheVariants.{Until, Within, Next, Always}
use Rattle.formula_reader.specs.Formula.{State, True, False, Label, Not, And, Or, Implies, Inner}
use Rattle.formula_tokens.specs.Reading.{is_number}
use Rattle.formula_reader.specs.Rules.{IsWord, IsCoalition, IsComparison, IsBound, IsState, IsSteps, IsPath, reach}
use Rattle.formula_reader.specs.Rules.{reach_within, until, until_within, next, always}
use Rattle.rpatl_syntax.specs.Spellable.{IsWholeWord, HasWords, IsShare, HasShare, HasThreshold, HasKind}
use Rattle.rpatl_syntax.specs.Spelling.{fraction_spelling}
use Rattle.rpatl_syntax.proofs.Numerals.{fraction_text, share_digits, share_denotes, steps_text}
use Rattle.rpatl_syntax.proofs.PrintedTokens.{team_tokens, bound_tokens, until_tokens, kind_tokens}

-- 1. Coalitions and bounds.

pub team_derived : (team : Option (List (List ℕ))) → HasWords team → IsCoalition (team_tokens team) team
team_derived None w = refl
team_derived (Some names) w = (refl, All-weaker IsWholeWord IsWord (λ name is. is.begins) names w)

share_derived : (sign : List ℕ) (p : Fraction) → IsShare p
    → IsComparison sign (codes "P" ∷ sign ∷ fraction_spelling p ∷ []) p
share_derived sign p is =
    let t = fraction_text p (share_digits p is) in
    let number = ap is_number t.whole ∙ t.digit in
    (fraction_spelling p, refl, record { number = number; value = share_denotes p is; small = is.small })

pub bound_derived : (b : Bound) → HasShare b → IsBound (bound_tokens b) b
bound_derived (AtLeast p) is = share_derived (codes ">=") p is
bound_derived (Above p) is = share_derived (codes ">") p is
bound_derived (AtMost p) is = share_derived (codes "<=") p is
bound_derived (Below p) is = share_derived (codes "<") p is
bound_derived AskMax is = refl
bound_derived AskMin is = refl

pub threshold_share : (b : Bound) → HasThreshold b → HasShare b
threshold_share AskMax h = absurd h
threshold_share AskMin h = absurd h
threshold_share b h = h

-- 2. Paths.

-- these tokens begin a path with such a left side, with a deadline and without
record Leads (room : ℕ) (us : List (List ℕ)) (x : State) : Type 0 where
  pub open_ : (vs : List (List ℕ)) (y : State) → IsState room vs y → IsPath room (us ++ vs) Until x y
  pub bounded : (token : List ℕ) (vs : List (List ℕ)) (k : ℕ) (y : State) → IsSteps token k → IsState room vs y
      → IsPath room (us ++ codes "<=" ∷ token ∷ vs) (Within k) x y

left_leads : (room : ℕ) (x : State) (us : List (List ℕ)) → IsState room us x → Leads room (us ++ codes "U" ∷ []) x
left_leads room x us dx =
    let P : PathKind → State → List (List ℕ) → Type 0 = λ kind y ts. IsPath room ts kind x y in
    record {
      open_ = λ vs y d.
          let Q : List (List ℕ) → Type 0 = λ ts. P Until y ts in
          subst Q (sym (append_assoc us (codes "U" ∷ []) vs)) (until room us vs x y dx d);
      bounded = λ token vs k y n d.
          let Q : List (List ℕ) → Type 0 = λ ts. P (Within k) y ts in
          subst Q (sym (append_assoc us (codes "U" ∷ []) (codes "<=" ∷ token ∷ vs)))
          (until_within room us token vs k x y dx n d);
    }

leads : (room : ℕ) (x : State) (us : List (List ℕ)) → IsState room us x → Leads room (until_tokens x us) x
leads room True us d = record { open_ = reach room; bounded = reach_within room }
leads room False us d = left_leads room False us d
leads room (Label name) us d = left_leads room (Label name) us d
leads room (Not x) us d = left_leads room (Not x) us d
leads room (And x z) us d = left_leads room (And x z) us d
leads room (Or x z) us d = left_leads room (Or x z) us d
leads room (Implies x z) us d = left_leads room (Implies x z) us d
leads room (Inner team bound kind x z) us d = left_leads room (Inner team bound kind x z) us d

pub path_derived : (room : ℕ) (kind : PathKind) (x y : State) (us vs : List (List ℕ)) → HasKind kind x
    → IsState room us x → IsState room vs y → IsPath room (kind_tokens kind x us ++ vs) kind x y
path_derived room Until x y us vs h dx d = let l = leads room x us dx in l.open_ vs y d
path_derived room (Within k) x y us vs h dx d =
    let l = leads room x us dx in
    let P : List (List ℕ) → Type 0 = λ ts. IsPath room ts (Within k) x y in
    let t = steps_text k h in
    subst P (sym (append_assoc (until_tokens x us) (codes "<=" ∷ decimal k ∷ []) vs))
    (l.bounded (decimal k) vs k y t.steps d)
path_derived room Next x y us vs h dx d =
    let P : State → Type 0 = λ z. IsPath room (codes "X" ∷ vs) Next z y in
    subst P (sym h) (next room vs y d)
path_derived room Always x y us vs h dx d =
    let P : State → Type 0 = λ z. IsPath room (codes "G" ∷ vs) Always z y in
    subst P (sym h) (always room vs y d)
