-- There is at most one truth.
use Rattle.std.proofs.Common.{◌≡◌, ◌∙◌, ◌<◌, ◌^◌, ℕ, Bool, true, false, not, ◌&&◌, ◌||◌, arith, sym, ap, subst, refl}
use Rattle.game_model.specs.Game.{IsGame}
use Rattle.game_model.specs.Query.{Query}
use Rattle.game_model.specs.Values.{denominator, numerator}
use Rattle.game_model.proofs.Choices.{AreChoicesOf-choices_of}
use Rattle.formula_reader.specs.declared.formula.PathKind.{PathKind}
use Rattle.formula_reader.specs.declared.formula.PathKind.TheVariants.{Until, Within, Next, Always}
use Rattle.rpatl_syntax.specs.Dual.{IsMetBy, dual_bound, dual_of}
use Rattle.formula_reader.specs.Formula.{State, True, False, Label, Not, And, Or, Implies, Inner, Tree}
use Rattle.formula_sets.specs.Posing.{Model, next_question_of}
use Rattle.bounded_rounds.specs.Exact.{next_numerator}
use Rattle.verdicts.specs.Truth.{IsTrueOf}
use Rattle.formula_truth.specs.Truth.{Valuation, IsTruth, IsTrueBy, states, holds, everywhere}
use Rattle.formula_truth.proofs.Ordered.{next_numerator-wider}
use Rattle.formula_truth.proofs.Posed.{AreEqual, question-equal}

equal-back : (n : ℕ) (here there : ℕ → Bool) → AreEqual n here there → AreEqual n there here
equal-back n here there same s inside = sym (same s inside)

next-same : (m : Model) (f : Tree) (here there : ℕ → Bool) → IsGame m.game → AreEqual (states m) here there
    → (s : ℕ) → next_numerator (next_question_of m.game m.owners f) here s
    ≡ next_numerator (next_question_of m.game m.owners f) there s
next-same m f here there game same s =
    let q = next_question_of m.game m.owners f in
    let chosen = AreChoicesOf-choices_of m.game game in
    omega (
      arith,
      next_numerator-wider q here there chosen (λ t inside h. sym (same t inside) ∙ h) s,
      next_numerator-wider q there here chosen (λ t inside h. same t inside ∙ h) s,
    )

module _ (m : Model) (game : IsGame m.game) (f : Tree) (left right left' right' : ℕ → Bool)
    (lefts : AreEqual (states m) left left') (rights : AreEqual (states m) right right') where
  -- what is true by sides is so by sides that hold at the same states
  true-same : (kind : PathKind) (s : ℕ) → IsTrueBy kind m f left right s → IsTrueBy kind m f left' right' s
  true-same Until s h =
      subst (λ (q : Query). IsTrueOf q f.bound s) (question-equal m f left right left' right' lefts rights) h
  true-same (Within k) s h = subst (λ (q : Query). IsMetBy f.bound (numerator q k s) (denominator m.game ^ k))
      (question-equal m f left right left' right' lefts rights) h
  true-same Next s h = subst (λ n. IsMetBy f.bound n (denominator m.game)) (next-same m f right right' game rights s) h
  true-same Always s h =
      subst (λ (q : Query). IsTrueOf q (dual_bound f.bound) s)
      (question-equal m (dual_of f) everywhere (λ t. not (right t)) everywhere (λ t. not (right' t)) (λ t inside. refl)
      (λ t inside. ap not (rights t inside))) h

same-bool : (a b : Bool) → (a ≡ true → b ≡ true) → (b ≡ true → a ≡ true) → a ≡ b
same-bool true b to from = sym (to refl)
same-bool false true to from = from refl
same-bool false false to from = refl

module _ (m : Model) (game : IsGame m.game) (valuation other : Valuation) (h : IsTruth m valuation)
    (k : IsTruth m other) where
  valuation-same : (f : Tree) → AreEqual (states m) (holds m.labels valuation f.left) (holds m.labels other f.left)
      → AreEqual (states m) (holds m.labels valuation f.right) (holds m.labels other f.right) → (s : ℕ) → s < states m
      → valuation f s ≡ other f s
  valuation-same f lefts rights s inside =
      same-bool (valuation f s) (other f s)
      (λ is. (k f s inside).1 (true-same m game f (holds m.labels valuation f.left) (holds m.labels valuation f.right)
      (holds m.labels other f.left) (holds m.labels other f.right) lefts rights f.kind s ((h f s inside).0 is)))
      (λ is. (h f s inside).1 (true-same m game f (holds m.labels other f.left) (holds m.labels other f.right)
      (holds m.labels valuation f.left) (holds m.labels valuation f.right)
      (equal-back (states m) (holds m.labels valuation f.left) (holds m.labels other f.left) lefts)
      (equal-back (states m) (holds m.labels valuation f.right) (holds m.labels other f.right) rights) f.kind s
      ((k f s inside).0 is)))

  holds-same : (x : State) → AreEqual (states m) (holds m.labels valuation x) (holds m.labels other x)
  holds-same True s inside = refl
  holds-same False s inside = refl
  holds-same (Label name) s inside = refl
  holds-same (Not x) s inside = ap not (holds-same x s inside)
  holds-same (And x y) s inside = ap (λ v. v && holds m.labels valuation y s) (holds-same x s inside)
      ∙ ap (λ v. holds m.labels other x s && v) (holds-same y s inside)
  holds-same (Or x y) s inside = ap (λ v. v || holds m.labels valuation y s) (holds-same x s inside)
      ∙ ap (λ v. holds m.labels other x s || v) (holds-same y s inside)
  holds-same (Implies x y) s inside = ap (λ v. not v || holds m.labels valuation y s) (holds-same x s inside)
      ∙ ap (λ v. not (holds m.labels other x s) || v) (holds-same y s inside)
  holds-same (Inner team bound kind left right) s inside =
      valuation-same (record { coalition = team; bound = bound; kind = kind; left = left; right = right })
      (holds-same left) (holds-same right) s inside

  pub one-truth : (f : Tree) (s : ℕ) → s < states m → valuation f s ≡ other f s
  one-truth f = valuation-same f (holds-same f.left) (holds-same f.right)
