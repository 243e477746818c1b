-- What the verdict of sound bounds says is the truth.
use Rattle.std.proofs.Common.{◌≡◌, ◌∙◌, ◌<◌, ◌≤◌, ◌-◌, ◌*◌, ◌^◌, ℕ, Bool, true, false, not, List, length, arith, sym}
use Rattle.std.proofs.Common.{ap, subst, refl}
use Rattle.std.specs.Prelude.{◌↔◌, slice_index}
use Rattle.std.proofs.Math.Nat.{one-le-pow}
use Rattle.game_model.specs.Game.{IsGame}
use Rattle.game_model.specs.Limits.{unit}
use Rattle.game_model.specs.Query.{Query, IsQuery}
use Rattle.game_model.specs.Values.{denominator, numerator}
use Rattle.game_model.specs.Bounds.{IsNear, IsHigh}
use Rattle.game_model.proofs.Choices.{denominator-pos}
use Rattle.game_laws.proofs.Truth.{IsNear-reaches, IsNear-exceeds, IsHigh-not-exceeds, IsHigh-not-reaches}
use Rattle.formula_reader.specs.declared.formula.Bound.{Bound}
use Rattle.formula_reader.specs.declared.formula.Bound.TheVariants.{AtLeast, Above, AtMost, Below, AskMax, AskMin}
use Rattle.formula_reader.specs.declared.formula.PathKind.{PathKind}
use Rattle.formula_reader.specs.declared.formula.PathKind.TheVariants.{Until, Within, Next, Always}
use Rattle.rpatl_syntax.specs.Dual.{IsAtMostOne, IsMetBy, dual_of, dual_bound}
use Rattle.formula_reader.specs.Formula.{Tree}
use Rattle.rpatl_syntax.specs.Spellable.{HasShare}
use Rattle.formula_sets.specs.Posing.{Model, next_question_of}
use Rattle.bounded_rounds.specs.Exact.{next_numerator}
use Rattle.verdicts.specs.declared.report.How.{How}
use Rattle.verdicts.specs.declared.verdict.Verdict.{Verdict}
use Rattle.verdicts.specs.declared.verdict.Verdict.TheVariants.{Yes, No, Undecided, Bracket}
use Rattle.verdicts.specs.Exact.{IsRight}
use Rattle.verdicts.specs.Truth.{IsTrueOf}
use Rattle.verdicts.specs.Verdict.{verdict_of}
use Rattle.verdicts.proofs.Settled.{AreSound, yes-true, no-false, false-not_true}
use Rattle.verdicts.proofs.Fractions.{right}
use Rattle.verdicts.proofs.Mirrored.{mirrored as mirrored-verdict}
use Rattle.formula_truth.specs.declared.way.Way.{Way}
use Rattle.formula_truth.specs.Truth.{states, question_by, dual_question_by, everywhere, IsTrueBy}
use Rattle.formula_truth.specs.ThreeValued.{Band, Known, verdict_at, exactly, negated}
use Rattle.formula_truth.specs.InnerRuns.{AreFoundBy, mirrored}
use Rattle.formula_truth.specs.Sound.{IsAround, IsBetween, IsRightOf}
use Rattle.formula_truth.proofs.Posed.{is_query}
use Rattle.formula_truth.proofs.Widened.{IsBounded, answered, swept, next-swept, negated-around, exactly-around}
use Rattle.formula_truth.proofs.Widened.{complement-at}

-- a verdict that is right of a fact, where the truth tells of it
valuation-right : (v : Verdict) (truth : Bool) (P : Type 0) → (truth ≡ true) ↔ P → (v ≡ Yes → P)
    → (v ≡ No → ¬ P) → IsRightOf v truth
valuation-right Yes truth P iff holds fails = iff.1 (holds refl)
valuation-right No true P iff holds fails = absurd (fails refl (iff.0 refl))
valuation-right No false P iff holds fails = refl
valuation-right Undecided truth P iff holds fails = tt
valuation-right Bracket truth P iff holds fails = tt

right-yes : (bound : Bound) (n d : ℕ) (v : Verdict) → IsRight bound n d v → v ≡ Yes → IsMetBy bound n d
right-yes bound n d v h is = subst (λ (w : Verdict). IsRight bound n d w) is h

right-no : (bound : Bound) (n d : ℕ) (v : Verdict) → IsRight bound n d v → v ≡ No → ¬ IsMetBy bound n d
right-no bound n d v h is = subst (λ (w : Verdict). IsRight bound n d w) is h

-- 1. Without a bound on the steps.

sound-at : (q : Query) (lower upper : ℕ → ℕ) (s : ℕ) → IsQuery q → IsNear q lower → IsHigh q upper → s < length q.game
    → AreSound q (lower s) (upper s) s
sound-at q lower upper s posed near high inside = record {
  reached = λ a b. IsNear-reaches q lower a b s near inside;
  exceeded = λ a b. IsNear-exceeds q lower a b s posed near inside;
  not_exceeded = λ a b. IsHigh-not-exceeds q upper a b s high inside;
  not_reached = λ a b. IsHigh-not-reaches q upper a b s posed high inside;
}

settled-right : (q : Query) (bound : Bound) (lower upper : ℕ → ℕ) (s : ℕ) (truth : Bool)
    → AreSound q (lower s) (upper s) s → (truth ≡ true) ↔ IsTrueOf q bound s
    → IsRightOf (verdict_of bound (lower s) (upper s)) truth
settled-right q bound lower upper s truth sound iff =
    valuation-right (verdict_of bound (lower s) (upper s)) truth (IsTrueOf q bound s) iff
    (yes-true q bound (lower s) (upper s) s sound)
    (λ is. false-not_true q bound s (no-false q bound (lower s) (upper s) s sound is))

-- 2. With one.

between-right : (bound : Bound) (n d lower upper : ℕ) (truth : Bool) → 1 ≤ d → IsBetween d lower upper (unit * n)
    → (truth ≡ true) ↔ IsMetBy bound n d → IsRightOf (verdict_of bound lower upper) truth
between-right bound n d lower upper truth some between iff =
    let is = right bound n d lower upper some between.low between.high in
    valuation-right (verdict_of bound lower upper) truth (IsMetBy bound n d) iff
    (right-yes bound n d (verdict_of bound lower upper) is) (right-no bound n d (verdict_of bound lower upper) is)

-- 3. Of every kind.

pub small-share : (bound : Bound) → HasShare bound → IsAtMostOne bound
small-share (AtLeast p) h = h.small
small-share (Above p) h = h.small
small-share (AtMost p) h = h.small
small-share (Below p) h = h.small
small-share AskMax h = tt
small-share AskMin h = tt

module _ (m : Model) (game : IsGame m.game) (f : Tree) (share : HasShare f.bound) (left right : ℕ → Bool)
    (kl kr : Known) (la : IsAround m left kl) (ra : IsAround m right kr) (starts : List ℕ) (way : Way)
    (band : Band) (how : How) where
  some-parts : 1 ≤ denominator m.game
  some-parts = denominator-pos m.game game

  always-right : (other : Band) → IsBounded m (dual_of f) everywhere (λ s. not (right s)) other → (s : ℕ)
      → s < states m → (truth : Bool) → (truth ≡ true) ↔ IsTrueOf (dual_question_by m f right) (dual_bound f.bound) s
      → IsRightOf (verdict_at f.bound (mirrored other) s) truth
  always-right other found s inside truth iff =
      let q = dual_question_by m f right in
      let lower : ℕ → ℕ = slice_index other.lower in
      let upper : ℕ → ℕ = slice_index other.upper in
      let up = complement-at other.upper s (omega (arith, inside, found.uppers)) found.upper_units in
      let low = complement-at other.lower s (omega (arith, inside, found.lowers)) found.lower_units in
      let same : verdict_at f.bound (mirrored other) s ≡ verdict_of (dual_bound f.bound) (lower s) (upper s) =
      ap (λ v. verdict_of f.bound v (slice_index (mirrored other).upper s)) up.0
      ∙ ap (λ v. verdict_of f.bound (unit - upper s) v) low.0
      ∙ mirrored-verdict f.bound (lower s) (upper s) (small-share f.bound share) low.1 up.1 in
      let dual_query : IsQuery q = is_query m (dual_of f) everywhere (λ s. not (right s)) game in
      subst (λ (v : Verdict). IsRightOf v truth) (sym same)
      (settled-right q (dual_bound f.bound) lower upper s truth
      (sound-at q lower upper s dual_query found.near found.high inside) iff)

  pub right-by : (kind : PathKind) → AreFoundBy kind m f kl kr starts way band how → (s : ℕ) → s < states m
      → (truth : Bool) → (truth ≡ true) ↔ IsTrueBy kind m f left right s → IsRightOf (verdict_at f.bound band s) truth
  right-by Until h s inside truth iff =
      let q = question_by m f left right in
      let found = answered m game f left right kl kr la ra f.bound starts way band how h in
      settled-right q f.bound (slice_index band.lower) (slice_index band.upper) s truth
      (sound-at q (slice_index band.lower) (slice_index band.upper) s
      (is_query m f left right game) found.near found.high inside) iff
  right-by (Within k) h s inside truth iff =
      between-right f.bound (numerator (question_by m f left right) k s) (denominator m.game ^ k)
      (slice_index band.lower s) (slice_index band.upper s) truth (one-le-pow k (denominator m.game) some-parts)
      (swept m game f left right kl kr la ra k band how h s inside) iff
  right-by Next h s inside truth iff =
      between-right f.bound (next_numerator (next_question_of m.game m.owners f) right s) (denominator m.game)
      (slice_index band.lower s) (slice_index band.upper s) truth some-parts
      (next-swept m game f left right kl kr la ra band how h s inside) iff
  right-by Always h s inside truth iff =
      let found = answered m game (dual_of f) everywhere (λ s. not (right s)) (exactly everywhere) (negated kr)
      (exactly-around m everywhere) (negated-around m right kr ra) (dual_bound f.bound) starts way h.0 how h.1 in
      subst (λ (b : Band). IsRightOf (verdict_at f.bound b s) truth) (sym h.2)
      (always-right h.0 found s inside truth iff)
