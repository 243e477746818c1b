-- What surely holds does, and what holds possibly does.
use Rattle.std.proofs.Common.{◌≡◌, ◌∙◌, ◌<◌, ℕ, Bool, true, false, not, ◌&&◌, ◌||◌, sym, ap, refl}
use Rattle.std.proofs.lemmas.Bool.{or_left, or_right}
use Rattle.std.specs.List.{range_with_len}
use Rattle.game_model.specs.Game.{IsGame}
use Rattle.formula_reader.specs.declared.formula.Bound.{Bound}
use Rattle.formula_reader.specs.declared.formula.Bound.TheVariants.{AtLeast, Above, AtMost, Below, AskMax, AskMin}
use Rattle.formula_reader.specs.Formula.{State, True, False, Label, Not, And, Or, Implies, Inner, Tree}
use Rattle.rpatl_syntax.specs.Spellable.{HasShare, HasThreshold, HasParts}
use Rattle.verdicts.specs.declared.verdict.Verdict.{Verdict}
use Rattle.verdicts.specs.declared.verdict.Verdict.TheVariants.{Yes, No, Undecided, Bracket}
use Rattle.formula_sets.specs.Posing.{Model}
use Rattle.formula_truth.specs.declared.way.Way.{Way}
use Rattle.formula_truth.specs.Truth.{Valuation, IsTruth, states, holds}
use Rattle.formula_truth.specs.ThreeValued.{Bands, Known, known, negated, both, either, verdict_at}
use Rattle.verdicts.specs.Verdict.{is_yes, is_no}
use Rattle.formula_truth.specs.InnerRuns.{AreFound}
use Rattle.formula_truth.specs.Sound.{IsAround, IsRightOf}
use Rattle.formula_truth.proofs.Widened.{negated-around}
use Rattle.formula_truth.proofs.Valuation.{right-by}

-- 1. The connectives.

pub and-on : (a b c d : Bool) → (a ≡ true → c ≡ true) → (b ≡ true → d ≡ true) → (a && b) ≡ true → (c && d) ≡ true
and-on true true c d h k both =
    let first : c ≡ true = h refl in
    let second : d ≡ true = k refl in
    ap (λ x. x && d) first ∙ second
and-on true false c d h k both = let wrong : false ≡ true = both in absurd (cc)
and-on false b c d h k both = let wrong : false ≡ true = both in absurd (cc)

pub or-on : (a b c d : Bool) → (a ≡ true → c ≡ true) → (b ≡ true → d ≡ true) → (a || b) ≡ true → (c || d) ≡ true
or-on true b c d h k one = or_left c d (h refl)
or-on false true c d h k one = or_right c d (k refl)
or-on false false c d h k one = let wrong : false ≡ true = one in absurd (cc)

module _ (m : Model) (x y : ℕ → Bool) (k l : Known) (h : IsAround m x k) (i : IsAround m y l) where
  pub both-around : IsAround m (λ s. x s && y s) (both k l)
  both-around = record {
    sure = λ s inside. and-on (k.sure s) (l.sure s) (x s) (y s) (h.sure s inside) (i.sure s inside);
    possible = λ s inside. and-on (x s) (y s) (k.possible s) (l.possible s) (h.possible s inside) (i.possible s inside);
  }

  pub either-around : IsAround m (λ s. x s || y s) (either k l)
  either-around = record {
    sure = λ s inside. or-on (k.sure s) (l.sure s) (x s) (y s) (h.sure s inside) (i.sure s inside);
    possible = λ s inside. or-on (x s) (y s) (k.possible s) (l.possible s) (h.possible s inside) (i.possible s inside);
  }

-- 2. A formula inside.

yes-valuation : (v : Verdict) (truth : Bool) → IsRightOf v truth → is_yes v ≡ true → truth ≡ true
yes-valuation Yes truth right said = right
yes-valuation No truth right said = let wrong : false ≡ true = said in absurd (cc)
yes-valuation Undecided truth right said = let wrong : false ≡ true = said in absurd (cc)
yes-valuation Bracket truth right said = let wrong : false ≡ true = said in absurd (cc)

valuation-possible : (v : Verdict) (truth : Bool) → IsRightOf v truth → truth ≡ true → not (is_no v) ≡ true
valuation-possible Yes truth right valuation = refl
valuation-possible No truth right valuation = let wrong : true ≡ false = sym valuation ∙ right in absurd (cc)
valuation-possible Undecided truth right valuation = refl
valuation-possible Bracket truth right valuation = refl

pub threshold-share : (bound : Bound) → HasThreshold bound → HasShare bound
threshold-share (AtLeast p) h = h
threshold-share (Above p) h = h
threshold-share (AtMost p) h = h
threshold-share (Below p) h = h
threshold-share AskMax h = absurd h
threshold-share AskMin h = absurd h

-- 3. Every state formula.

module _ (m : Model) (game : IsGame m.game) (valuation : Valuation) (truth : IsTruth m valuation) (way : Way) where
  pub around : (x : State) (b : Bands x) → HasParts x → AreFound m way x b
      → IsAround m (holds m.labels valuation x) (known m.labels x b)
  around True b parts found = record { sure = λ s inside h. refl; possible = λ s inside h. refl }
  around False b parts found = record { sure = λ s inside h. h; possible = λ s inside h. h }
  around (Label name) b parts found = record { sure = λ s inside h. h; possible = λ s inside h. h }
  around (Not x) b parts found =
      negated-around m (holds m.labels valuation x) (known m.labels x b) (around x b parts found)
  around (And x y) b parts found =
      both-around m (holds m.labels valuation x) (holds m.labels valuation y) (known m.labels x b.0)
      (known m.labels y b.1) (around x b.0 parts.0 found.0) (around y b.1 parts.1 found.1)
  around (Or x y) b parts found =
      either-around m (holds m.labels valuation x) (holds m.labels valuation y) (known m.labels x b.0)
      (known m.labels y b.1) (around x b.0 parts.0 found.0) (around y b.1 parts.1 found.1)
  around (Implies x y) b parts found =
      either-around m (λ s. not (holds m.labels valuation x s)) (holds m.labels valuation y)
      (negated (known m.labels x b.0)) (known m.labels y b.1)
      (negated-around m (holds m.labels valuation x) (known m.labels x b.0) (around x b.0 parts.0 found.0))
      (around y b.1 parts.1 found.1)
  around (Inner team bound kind left right) b parts found =
      let f : Tree = record { coalition = team; bound = bound; kind = kind; left = left; right = right } in
      let at : (s : ℕ) → s < states m → IsRightOf (verdict_at bound b.0 s) (valuation f s) = λ s inside.
      right-by m game f (threshold-share bound parts.0.threshold) (holds m.labels valuation left)
      (holds m.labels valuation right) (known m.labels left b.1) (known m.labels right b.2)
      (around left b.1 parts.1 found.1) (around right b.2 parts.2 found.2)
      (range_with_len 0 (states m)) way b.0 found.0.0 kind found.0.1 s inside (valuation f s) (truth f s inside) in
      record {
        sure = λ s inside. yes-valuation (verdict_at bound b.0 s) (valuation f s) (at s inside);
        possible = λ s inside. valuation-possible (verdict_at bound b.0 s) (valuation f s) (at s inside);
      }
