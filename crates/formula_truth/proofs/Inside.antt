-- Formulas inside: what coarse bounds of them say, bounds that runs find say, too.
use Rattle.std.proofs.Common.{◌≡◌, ◌<◌, ◌≤◌, ◌+◌, ℕ, zero, suc, Bool, true, false, cond, not, List, get_or, arith}
use Rattle.std.proofs.Common.{subst, refl, add-one}
use Rattle.std.specs.Prelude.{count_by, All}
use Rattle.std.specs.List.{range_with_len}
use Rattle.game_model.specs.Game.{IsGame}
use Rattle.label_lines.specs.Labels.{Labelling}
use Rattle.formula_reader.specs.declared.formula.Bound.{Bound}
use Rattle.rpatl_syntax.specs.Dual.{IsAtMostOne}
use Rattle.formula_reader.specs.Formula.{State, True, False, Label, Not, And, Or, Implies, Inner, Tree}
use Rattle.rpatl_syntax.specs.Spellable.{HasShare, HasParts}
use Rattle.verdicts.specs.declared.report.How.{How}
use Rattle.verdicts.specs.declared.verdict.Verdict.{Verdict}
use Rattle.verdicts.specs.declared.verdict.Verdict.TheVariants.{Yes, No, Undecided, Bracket}
use Rattle.formula_sets.specs.Posing.{Model}
use Rattle.formula_truth.specs.Truth.{states}
use Rattle.formula_truth.specs.ThreeValued.{Band, Bands, known, surely, possibly, verdict_at, undecided_in}
use Rattle.verdicts.specs.Verdict.{is_yes, is_no, is_undecided}
use Rattle.formula_truth.specs.declared.way.Way.TheVariants.{ByRounds}
use Rattle.formula_truth.specs.InnerRuns.{AreFound, AreFoundBy}
use Rattle.formula_truth.specs.RoundBounds.{AreCoarse, AreCoarseBy, IsFiner, IsOpenWithin, AreOpenWithin, IsCoarse}
use Rattle.formula_truth.specs.RoundBounds.{AreWithin}
use Rattle.formula_truth.proofs.Around.{and-on, or-on, threshold-share}
use Rattle.formula_truth.proofs.Counted.{count-more}
use Rattle.formula_truth.proofs.Valuation.{small-share}
use Rattle.formula_truth.proofs.Widened.{not-within}
use Rattle.formula_truth.proofs.Looked.{IsLookedAt, looked-everywhere, looked-start}
use Rattle.formula_truth.proofs.Coarsely.{IsWithinAt, within-by}

-- 1. What surely holds possibly does.

yes-not_no : (v : Verdict) → is_yes v ≡ true → not (is_no v) ≡ true
yes-not_no Yes e = refl
yes-not_no No e = let wrong : false ≡ true = e in absurd (cc)
yes-not_no Undecided e = refl
yes-not_no Bracket e = refl

pub consistent : (l : Labelling) (x : State) (b : Bands x) (s : ℕ) → surely l x b s ≡ true → possibly l x b s ≡ true
consistent l True b s e = e
consistent l False b s e = e
consistent l (Label name) b s e = e
consistent l (Not x) b s e = not-within (surely l x b s) (possibly l x b s) (consistent l x b s) e
consistent l (And x y) b s e = and-on (surely l x b.0 s) (surely l y b.1 s) (possibly l x b.0 s) (possibly l y b.1 s)
    (consistent l x b.0 s) (consistent l y b.1 s) e
consistent l (Or x y) b s e = or-on (surely l x b.0 s) (surely l y b.1 s) (possibly l x b.0 s) (possibly l y b.1 s)
    (consistent l x b.0 s) (consistent l y b.1 s) e
consistent l (Implies x y) b s e =
    or-on (not (possibly l x b.0 s)) (surely l y b.1 s) (not (surely l x b.0 s)) (possibly l y b.1 s)
    (not-within (surely l x b.0 s) (possibly l x b.0 s) (consistent l x b.0 s)) (consistent l y b.1 s) e
consistent l (Inner team bound kind left right) b s e = yes-not_no (verdict_at bound b.0 s) e

-- 2. What surely holds by coarse bounds does so by those that are found,
-- and what possibly holds by these does so by coarse ones.

module _ (l : Labelling) (n : ℕ) (x y : State) (b c : Bands x) (b' c' : Bands y)
    (h : IsFiner n (known l x b) (known l x c)) (k : IsFiner n (known l y b') (known l y c')) where
  both-finer : IsFiner n (known l (And x y) (b, b')) (known l (And x y) (c, c'))
  both-finer = record {
    sure = λ s inside. and-on (surely l x c s) (surely l y c' s) (surely l x b s) (surely l y b' s)
        (h.sure s inside) (k.sure s inside);
    possible = λ s inside. and-on (possibly l x b s) (possibly l y b' s) (possibly l x c s) (possibly l y c' s)
        (h.possible s inside) (k.possible s inside);
  }

  either-finer : IsFiner n (known l (Or x y) (b, b')) (known l (Or x y) (c, c'))
  either-finer = record {
    sure = λ s inside. or-on (surely l x c s) (surely l y c' s) (surely l x b s) (surely l y b' s)
        (h.sure s inside) (k.sure s inside);
    possible = λ s inside. or-on (possibly l x b s) (possibly l y b' s) (possibly l x c s) (possibly l y c' s)
        (h.possible s inside) (k.possible s inside);
  }

  implied-finer : IsFiner n (known l (Implies x y) (b, b')) (known l (Implies x y) (c, c'))
  implied-finer = record {
    sure = λ s inside. or-on (not (possibly l x c s)) (surely l y c' s) (not (possibly l x b s)) (surely l y b' s)
        (not-within (possibly l x b s) (possibly l x c s) (h.possible s inside)) (k.sure s inside);
    possible = λ s inside. or-on (not (surely l x b s)) (possibly l y b' s) (not (surely l x c s)) (possibly l y c' s)
        (not-within (surely l x c s) (surely l x b s) (h.sure s inside)) (k.possible s inside);
  }

module _ (m : Model) (game : IsGame m.game) (asked : ℕ) where
  -- with the bounds of the sides, at a state where each run looks
  formula-within : (f : Tree) (starts : List ℕ) (bl cl : Bands f.left) (br cr : Bands f.right) (band coarse : Band)
      (how : How) → IsAtMostOne f.bound → IsFiner (states m) (known m.labels f.left bl) (known m.labels f.left cl)
      → IsFiner (states m) (known m.labels f.right br) (known m.labels f.right cr)
      → AreFoundBy f.kind m f (known m.labels f.left bl) (known m.labels f.right br) starts (ByRounds asked) band how
      → AreCoarseBy f.kind m f (known m.labels f.left cl) (known m.labels f.right cr) asked coarse → (s : ℕ)
      → s < states m → ((bound : Bound) → IsLookedAt bound starts s) → IsWithinAt f.bound coarse band s
  formula-within f starts bl cl br cr band coarse how small lf rf h c s inside looked =
      within-by m game f small (known m.labels f.left bl) (known m.labels f.right br) (known m.labels f.left cl)
      (known m.labels f.right cr)
      (λ t within. consistent m.labels f.left bl t) (λ t within. consistent m.labels f.right br t) lf rf starts asked
      band coarse how s inside looked f.kind h c

  pub finer : (x : State) (b c : Bands x) → HasParts x → AreFound m (ByRounds asked) x b → AreCoarse m asked x c
      → IsFiner (states m) (known m.labels x b) (known m.labels x c)
  finer True b c parts h k = record { sure = λ s inside e. e; possible = λ s inside e. e }
  finer False b c parts h k = record { sure = λ s inside e. e; possible = λ s inside e. e }
  finer (Label name) b c parts h k = record { sure = λ s inside e. e; possible = λ s inside e. e }
  finer (Not x) b c parts h k =
      let at = finer x b c parts h k in
      record {
        sure = λ s inside. not-within (possibly m.labels x b s) (possibly m.labels x c s) (at.possible s inside);
        possible = λ s inside. not-within (surely m.labels x c s) (surely m.labels x b s) (at.sure s inside);
      }
  finer (And x y) b c parts h k = both-finer m.labels (states m) x y b.0 c.0 b.1 c.1 (finer x b.0 c.0 parts.0 h.0 k.0)
      (finer y b.1 c.1 parts.1 h.1 k.1)
  finer (Or x y) b c parts h k = either-finer m.labels (states m) x y b.0 c.0 b.1 c.1 (finer x b.0 c.0 parts.0 h.0 k.0)
      (finer y b.1 c.1 parts.1 h.1 k.1)
  finer (Implies x y) b c parts h k = implied-finer m.labels (states m) x y b.0 c.0 b.1 c.1
      (finer x b.0 c.0 parts.0 h.0 k.0) (finer y b.1 c.1 parts.1 h.1 k.1)
  finer (Inner team bound kind left right) b c parts h k =
      let f : Tree = record { coalition = team; bound = bound; kind = kind; left = left; right = right } in
      let at : (s : ℕ) → s < states m → IsWithinAt bound c.0 b.0 s = λ s inside.
      formula-within f (range_with_len 0 (states m)) b.1 c.1 b.2 c.2 b.0 c.0 h.0.0
      (small-share bound (threshold-share bound parts.0.threshold))
      (finer left b.1 c.1 parts.1 h.1 k.1) (finer right b.2 c.2 parts.2 h.2 k.2) h.0.1 k.0 s inside
      (λ any. looked-everywhere any (states m) s inside) in
      record {
        sure = λ s inside. (at s inside).sharper.yes;
        possible = λ s inside.
            not-within (is_no (verdict_at bound c.0 s)) (is_no (verdict_at bound b.0 s)) (at s inside).sharper.no;
      }

  -- 3. A formula inside is undecided only where it is by the coarse bounds.

  pub open-within : (x : State) (b c : Bands x) → HasParts x → AreFound m (ByRounds asked) x b → AreCoarse m asked x c
      → AreOpenWithin (states m) x b c
  open-within True b c parts h k = tt
  open-within False b c parts h k = tt
  open-within (Label name) b c parts h k = tt
  open-within (Not x) b c parts h k = open-within x b c parts h k
  open-within (And x y) b c parts h k = (open-within x b.0 c.0 parts.0 h.0 k.0, open-within y b.1 c.1 parts.1 h.1 k.1)
  open-within (Or x y) b c parts h k = (open-within x b.0 c.0 parts.0 h.0 k.0, open-within y b.1 c.1 parts.1 h.1 k.1)
  open-within (Implies x y) b c parts h k =
      (open-within x b.0 c.0 parts.0 h.0 k.0, open-within y b.1 c.1 parts.1 h.1 k.1)
  open-within (Inner team bound kind left right) b c parts h k =
      let f : Tree = record { coalition = team; bound = bound; kind = kind; left = left; right = right } in
      let at : (s : ℕ) → s < states m → IsOpenWithin bound b.0 c.0 s = λ s inside.
      (formula-within f (range_with_len 0 (states m)) b.1 c.1 b.2 c.2 b.0 c.0 h.0.0
      (small-share bound (threshold-share bound parts.0.threshold))
      (finer left b.1 c.1 parts.1 h.1 k.1) (finer right b.2 c.2 parts.2 h.2 k.2) h.0.1 k.0 s inside
      (λ any. looked-everywhere any (states m) s inside)).sharper.undecided in
      (at, open-within left b.1 c.1 parts.1 h.1 k.1, open-within right b.2 c.2 parts.2 h.2 k.2)

  -- 4. So is the outermost formula, at the states where its run looks.

  pub outermost : (f : Tree) (starts : List ℕ) (bl cl : Bands f.left) (br cr : Bands f.right)
      (band coarse : Band) (how : How) → HasShare f.bound → HasParts f.left → HasParts f.right
      → All (λ s. s < states m) starts → AreFound m (ByRounds asked) f.left bl → AreFound m (ByRounds asked) f.right br
      → AreFoundBy f.kind m f (known m.labels f.left bl) (known m.labels f.right br) starts (ByRounds asked) band how
      → IsCoarse m f asked cl cr coarse → AreWithin f.bound starts band coarse
  outermost f starts bl cl br cr band coarse how share left right inside lh rh h c =
      let at : All (λ s. IsWithinAt f.bound coarse band s) starts = λ k d there.
      formula-within f starts bl cl br cr band coarse how (small-share f.bound share)
      (finer f.left bl cl left lh c.left_coarse) (finer f.right br cr right rh c.right_coarse) h c.coarse
      (get_or starts k d) (inside k d there) (λ any. looked-start any starts k d there) in
      record {
        undecided = λ k d there. (at k d there).sharper.undecided;
        lower = λ asking k d there. (at k d there).lower asking;
        upper = λ asking k d there. (at k d there).upper asking;
      }

-- 5. And so at no more states.

marked-le : (here there : Bool) → (here ≡ true → there ≡ true) → cond here 1 0 ≤ cond there 1 0
marked-le true true more = let at : 1 ≤ 1 = omega arith in at
marked-le true false more = let wrong : false ≡ true = more refl in absurd (cc)
marked-le false there more = let at : 0 ≤ cond there 1 0 = omega arith in at

count-within : (here there : ℕ → Bool) (n : ℕ) → ((s : ℕ) → s < n → here s ≡ true → there s ≡ true)
    → count_by here (range_with_len 0 n) ≤ count_by there (range_with_len 0 n)
count-within here there zero more = let at : 0 ≤ 0 = omega arith in at
count-within here there (suc n) more =
    let step : count_by here (range_with_len 0 (n + 1)) ≤ count_by there (range_with_len 0 (n + 1)) =
    omega (
      arith,
      count-more here n,
      count-more there n,
      count-within here there n (λ s inside. more s (omega arith)),
      marked-le (here n) (there n) (more n (omega arith)),
    ) in
    subst (λ k. count_by here (range_with_len 0 k) ≤ count_by there (range_with_len 0 k)) (add-one n) step

pub fewer-open : (n : ℕ) (x : State) (b c : Bands x) → AreOpenWithin n x b c → undecided_in x b n ≤ undecided_in x c n
fewer-open n True b c h = omega arith
fewer-open n False b c h = omega arith
fewer-open n (Label name) b c h = omega arith
fewer-open n (Not x) b c h = fewer-open n x b c h
fewer-open n (And x y) b c h = omega (arith, fewer-open n x b.0 c.0 h.0, fewer-open n y b.1 c.1 h.1)
fewer-open n (Or x y) b c h = omega (arith, fewer-open n x b.0 c.0 h.0, fewer-open n y b.1 c.1 h.1)
fewer-open n (Implies x y) b c h = omega (arith, fewer-open n x b.0 c.0 h.0, fewer-open n y b.1 c.1 h.1)
fewer-open n (Inner team bound kind left right) b c h =
    omega (
      arith,
      count-within (λ s. is_undecided (verdict_at bound b.0 s)) (λ s. is_undecided (verdict_at bound c.0 s)) n h.0,
      fewer-open n left b.1 c.1 h.1,
      fewer-open n right b.2 c.2 h.2,
    )
