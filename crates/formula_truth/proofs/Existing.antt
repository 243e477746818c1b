-- There is a truth: each formula is judged by the exact values of its question.
use Rattle.std.proofs.Common.{◌≡◌, ◌∙◌, ◌<◌, ◌^◌, ◌*◌, ℕ, Bool, true, false, not, ◌&&◌, ◌||◌, arith, sym, ap, subst}
use Rattle.std.proofs.Common.{refl, inl, inr}
use mathlib.Core.Path.{fun_ext}
use Rattle.std.proofs.lemmas.Bool.{cases_lt}
use Rattle.game_model.specs.Game.{IsGame}
use Rattle.game_model.specs.Query.{Query, IsQuery}
use Rattle.game_model.specs.Query as query
use Rattle.game_model.specs.Values.{denominator, numerator}
use Rattle.label_lines.specs.Labels.{holds_at}
use Rattle.formula_reader.specs.declared.formula.Bound.{Bound}
use Rattle.formula_reader.specs.declared.formula.Bound.TheVariants.{AtLeast, Above, AtMost, Below, AskMax, AskMin}
use Rattle.formula_reader.specs.declared.formula.PathKind.{PathKind}
use Rattle.formula_reader.specs.declared.formula.PathKind.TheVariants.{Until, Within, Next, Always}
use Rattle.rpatl_syntax.specs.Dual.{IsMetBy, dual_bound, dual_of}
use Rattle.formula_reader.specs.Formula.{State, True, False, Label, Not, And, Or, Implies, Inner, Tree}
use Rattle.formula_sets.specs.Posing.{Model, next_question_of}
use Rattle.bounded_rounds.specs.Exact.{next_numerator}
use Rattle.verdicts.specs.Truth.{IsTrueOf}
use Rattle.formula_truth.specs.Truth.{Valuation, IsTruth, IsTrueBy, states, holds, everywhere, question_by}
use Rattle.formula_truth.specs.Truth.{dual_question_by}
use Rattle.formula_truth.proofs.Posed.{is_query}
use Rattle.determinacy.proofs.Decided.{Decided, dec-not, dec-lt, dec-le}
use Rattle.determinacy.proofs.Deciding.{reaches-decided, exceeds-decided}

dec-of : (q : Query) (bound : Bound) (s : ℕ) → IsQuery q → s < query.states q → Decided (IsTrueOf q bound s)
dec-of q (AtLeast p) s posed inside = reaches-decided q p.num p.den s posed inside
dec-of q (Above p) s posed inside = exceeds-decided q p.num p.den s posed inside
dec-of q (AtMost p) s posed inside = dec-not _ (exceeds-decided q p.num p.den s posed inside)
dec-of q (Below p) s posed inside = dec-not _ (reaches-decided q p.num p.den s posed inside)
dec-of q AskMax s posed inside = inl tt
dec-of q AskMin s posed inside = inl tt

dec-met : (bound : Bound) (n whole : ℕ) → Decided (IsMetBy bound n whole)
dec-met (AtLeast p) n whole = dec-le (p.num * whole) (n * p.den)
dec-met (Above p) n whole = dec-lt (p.num * whole) (n * p.den)
dec-met (AtMost p) n whole = dec-le (n * p.den) (p.num * whole)
dec-met (Below p) n whole = dec-lt (n * p.den) (p.num * whole)
dec-met AskMax n whole = inl tt
dec-met AskMin n whole = inl tt

module _ (m : Model) (game : IsGame m.game) where
  dec-by : (kind : PathKind) (f : Tree) (left right : ℕ → Bool) (s : ℕ) → s < states m
      → Decided (IsTrueBy kind m f left right s)
  dec-by Until f left right s inside =
      dec-of (question_by m f left right) f.bound s (is_query m f left right game) inside
  dec-by (Within k) f left right s inside =
      dec-met f.bound (numerator (question_by m f left right) k s) (denominator m.game ^ k)
  dec-by Next f left right s inside =
      dec-met f.bound (next_numerator (next_question_of m.game m.owners f) right s) (denominator m.game)
  dec-by Always f left right s inside = dec-of (dual_question_by m f right) (dual_bound f.bound) s
      (is_query m (dual_of f) everywhere (λ s. not (right s)) game) inside

  is_so : (A : Type 0) → Decided A → Bool
  is_so A (inl a) = true
  is_so A (inr a) = false

  so-right : (A : Type 0) (d : Decided A) → ((is_so A d ≡ true) → A) × (A → is_so A d ≡ true)
  unfolding is_so
  so-right A (inl a) = ((λ h. a), λ h. refl)
  so-right A (inr a) = ((λ h. absurd (cc)), λ h. absurd (a h))

  -- what a formula whose sides hold at these states is at a state
  judged : (f : Tree) (left right : ℕ → Bool) → ℕ → Bool
  judged f left right s = elim (cases_lt s (states m)) [
    | inl inside ↦ is_so _ (dec-by f.kind f left right s inside)
    | inr _ ↦ false
  ]

  judged-right : (f : Tree) (left right : ℕ → Bool) (s : ℕ) → s < states m
      → ((judged f left right s ≡ true) → IsTrueBy f.kind m f left right s)
      × (IsTrueBy f.kind m f left right s → judged f left right s ≡ true)
  unfolding judged
  judged-right f left right s inside = elim (cases_lt s (states m))
      as (λ c. ((elim c [ inl inside ↦ is_so _ (dec-by f.kind f left right s inside) | inr _ ↦ false ] ≡ true)
      → IsTrueBy f.kind m f left right s) × (IsTrueBy f.kind m f left right s
      → elim c [ inl inside ↦ is_so _ (dec-by f.kind f left right s inside) | inr _ ↦ false ] ≡ true)) [
        | inl within ↦ so-right _ (dec-by f.kind f left right s within)
        | inr past ↦ absurd (omega (arith, inside, past))
      ]

  -- where a state formula holds
  truth : State → ℕ → Bool
  truth True s = true
  truth False s = false
  truth (Label name) s = holds_at m.labels name s
  truth (Not x) s = not (truth x s)
  truth (And x y) s = truth x s && truth y s
  truth (Or x y) s = truth x s || truth y s
  truth (Implies x y) s = not (truth x s) || truth y s
  truth (Inner team bound kind left right) s = judged
      (record { coalition = team; bound = bound; kind = kind; left = left; right = right }) (truth left) (truth right) s

  valued : Valuation
  valued = λ f s. truth (Inner f.coalition f.bound f.kind f.left f.right) s

  holds-truth : (x : State) (s : ℕ) → holds m.labels valued x s ≡ truth x s
  unfolding truth valued
  holds-truth True s = refl
  holds-truth False s = refl
  holds-truth (Label name) s = refl
  holds-truth (Not x) s = ap not (holds-truth x s)
  holds-truth (And x y) s =
      ap (λ v. v && holds m.labels valued y s) (holds-truth x s) ∙ ap (λ v. truth x s && v) (holds-truth y s)
  holds-truth (Or x y) s =
      ap (λ v. v || holds m.labels valued y s) (holds-truth x s) ∙ ap (λ v. truth x s || v) (holds-truth y s)
  holds-truth (Implies x y) s =
      ap (λ v. not v || holds m.labels valued y s) (holds-truth x s) ∙ ap (λ v. not (truth x s) || v) (holds-truth y s)
  holds-truth (Inner team bound kind left right) s = refl

  valued-true : IsTruth m valued
  unfolding truth valued
  valued-true f s inside =
      let left : holds m.labels valued f.left ≡ truth f.left = fun_ext (holds-truth f.left) in
      let right : holds m.labels valued f.right ≡ truth f.right = fun_ext (holds-truth f.right) in
      let is = judged-right f (truth f.left) (truth f.right) s inside in (
        (λ h. subst (λ x. IsTrueBy f.kind m f x (holds m.labels valued f.right) s) (sym left)
            (subst (λ y. IsTrueBy f.kind m f (truth f.left) y s) (sym right) (is.0 h))),
        (λ h. is.1 (subst (λ x. IsTrueBy f.kind m f x (truth f.right) s) left
            (subst (λ y. IsTrueBy f.kind m f (holds m.labels valued f.left) y s) right h))),
      )

pub truth-of : (m : Model) → IsGame m.game → (valuation : Valuation) × IsTruth m valuation
truth-of m game = (valued m game, valued-true m game)
