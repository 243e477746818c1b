-- The tokens of a bound on a reward that the rules derive are read.
use Rattle.std.proofs.Common.{◌≡◌, ◌∙◌, ℕ, List, [], ◌∷◌, cond, Result, Ok, refl, ap, subst}
use Rattle.std.specs.Prelude.{codes}
use Rattle.fractions.specs.Fraction.{Fraction}
use Rattle.rewards_reader.specs.Amounts.{amount_said}
use Rattle.rewards_reader.proofs.AmountLaws.{amount-again}
use Rattle.formula_tokens.specs.declared.fault.FormulaFault.{FormulaFault}
use Rattle.formula_tokens.specs.declared.fault.FormulaCause.TheVariants.{Unexpected}
use Rattle.formula_tokens.specs.Fault.{◌>>=◌}
use Rattle.formula_tokens.specs.Tokens.{Tokens, Then, Token}
use Rattle.formula_tokens.specs.Reading.{next, fails}
use Rattle.formula_tokens.proofs.Spans.{Spans}
use Rattle.formula_reader.specs.declared.formula.Comparison.{Comparison}
use Rattle.formula_reader.specs.declared.formula.Comparison.TheVariants.{AtLeast as at_least, Above as above}
use Rattle.formula_reader.specs.declared.formula.Comparison.TheVariants.{AtMost as at_most, Below as below}
use Rattle.reward_formula.specs.declared.formula.RewardBound.{RewardBound}
use Rattle.reward_formula.specs.declared.formula.RewardBound.TheVariants.{AtLeast, Above, AtMost, Below, AskMax, AskMin}
use Rattle.reward_formula.specs.Grammar.{comparison, threshold_of, threshold, bound_with, compared, asked, named_bound}
use Rattle.reward_formula.specs.Rules.{IsThreshold, IsCompared, IsNamedBound}
use Rattle.reward_formula.proofs.BoundsFound.{sign_of}

-- a token by its parts
abbrev pub token_with : ℕ → List ℕ → Tokens → Token
token_with place spelling after = record { place = place; spelling = spelling; after = after }

threshold_again : (place : ℕ) (spelling : List ℕ) (after : Tokens) (x : Fraction) → IsThreshold spelling x
    → threshold (token_with place spelling after) ≡ Ok x
threshold_again place spelling after x d =
    let token = token_with place spelling after in
    ap (λ b. cond b (threshold_of token (amount_said spelling)) (fails token Unexpected)) d.number
    ∙ ap (threshold_of token) (amount-again spelling x d.value)

comparison_again : (c : Comparison) (place : ℕ) (after : Tokens)
    → comparison (token_with place (sign_of c) after) ≡ Ok c
comparison_again at_least place after = refl
comparison_again above place after = refl
comparison_again at_most place after = refl
comparison_again below place after = refl

-- a threshold, from its token on
abbrev behind_sign : Comparison → Token → Result (RewardBound × Tokens) FormulaFault
behind_sign c token = threshold token >>= λ y. Ok (bound_with c y, token.after)

number_again : (c : Comparison) (token : List ℕ) (x : Fraction) → IsThreshold token x → (ts rest : Tokens)
    → Spans ts (token ∷ []) rest → (next ts >>= behind_sign c) ≡ Ok (bound_with c x, rest)
number_again c token x d ts rest s =
    ap (λ t. next t >>= behind_sign c) s.2
    ∙ ap (λ r. r >>= λ y. Ok (bound_with c y, s.1)) (threshold_again s.0 token s.1 x d)
    ∙ ap (λ (t : Tokens). Ok (bound_with c x, t)) s.3

-- a sign, and a comparison that is read from it on
pub record ComparedRead (sign : List ℕ) (b : RewardBound) (ts rest : Tokens) : Type 0 where
  pub place : ℕ
  pub after : Tokens
  pub at : ts ≡ Then place sign after
  pub reads : compared (token_with place sign after) ≡ Ok (b, rest)

pub compared_again : (c : Comparison) (us : List (List ℕ)) (x : Fraction) → IsCompared (sign_of c) us x
    → (ts rest : Tokens) → Spans ts us rest → ComparedRead (sign_of c) (bound_with c x) ts rest
compared_again c us x d ts rest s =
    let P : List (List ℕ) → Type 0 = λ vs. Spans ts vs rest in
    let t : Spans ts (sign_of c ∷ d.0 ∷ []) rest = subst P d.1 s in
    record {
      place = t.0;
      after = t.1;
      at = t.2;
      reads = ap (λ r. r >>= λ kind. next t.1 >>= behind_sign kind)
          (comparison_again c t.0 t.1)
          ∙ number_again c d.0 x d.2 t.1 rest t.3;
    }

pub asked_again : (bound : RewardBound) (ts rest : Tokens) → Spans ts (codes "=?" ∷ []) rest
    → asked bound ts ≡ Ok (bound, rest)
asked_again bound ts rest s = ap (asked bound) s.2 ∙ ap (λ (t : Tokens). Ok (bound, t)) s.3

-- behind a name
named_compared : (c : Comparison) → ((place : ℕ) (after : Tokens)
    → named_bound (Then place (sign_of c) after) ≡ compared (token_with place (sign_of c) after))
    → (us : List (List ℕ)) (x : Fraction) → IsCompared (sign_of c) us x → (ts rest : Tokens) → Spans ts us rest
    → named_bound ts ≡ Ok (bound_with c x, rest)
named_compared c leads us x d ts rest s =
    let r = compared_again c us x d ts rest s in
    ap named_bound r.at ∙ leads r.place r.after ∙ r.reads

pub named_again : (us : List (List ℕ)) (b : RewardBound) → IsNamedBound us b → (ts rest : Tokens) → Spans ts us rest
    → named_bound ts ≡ Ok (b, rest)
named_again us (AtLeast x) d ts rest s = named_compared at_least (λ place after. refl) us x d ts rest s
named_again us (Above x) d ts rest s = named_compared above (λ place after. refl) us x d ts rest s
named_again us (AtMost x) d ts rest s = named_compared at_most (λ place after. refl) us x d ts rest s
named_again us (Below x) d ts rest s = named_compared below (λ place after. refl) us x d ts rest s
named_again us AskMax d ts rest s =
    let P : List (List ℕ) → Type 0 = λ vs. Spans ts vs rest in
    let t : Spans ts (codes "max" ∷ codes "=?" ∷ []) rest = subst P d s in
    ap named_bound t.2 ∙ asked_again AskMax t.1 rest t.3
named_again us AskMin d ts rest s =
    let P : List (List ℕ) → Type 0 = λ vs. Spans ts vs rest in
    let t : Spans ts (codes "min" ∷ codes "=?" ∷ []) rest = subst P d s in
    ap named_bound t.2 ∙ asked_again AskMin t.1 rest t.3
