-- Bounds that runs find say at least what coarse bounds of the same formula say, whose sides are known no better.
use Rattle.std.proofs.Common.{◌≡◌, ◌∙◌, ◌<◌, ◌≤◌, ◌+◌, ◌-◌, ◌*◌, ◌/◌, ◌^◌, ℕ, Bool, true, false, List, length, arith}
use Rattle.std.proofs.Common.{sym, ap, subst, refl}
use Rattle.std.specs.Prelude.{slice_index}
use Rattle.std.specs.Bool.{if◌then◌else◌}
use Rattle.std.proofs.Math.Nat.{mul-le-mul_left, one-le-pow, le_of_mul-le-mul_left, lt_of_mul-lt-mul_left}
use Rattle.std.proofs.lemmas.List.{get_or-map}
use Rattle.game_model.specs.Game.{IsGame}
use Rattle.game_model.specs.Limits.{unit}
use Rattle.game_model.specs.Query.{Query, IsQuery}
use Rattle.game_model.specs.Values.{denominator, numerator}
use Rattle.game_model.specs.Bounds.{IsNear, IsHigh}
use Rattle.game_model.specs.Rounded.{down_steps, opening}
use Rattle.game_model.specs.Dual.{IsZeroSet, swapped}
use Rattle.game_model.proofs.Choices.{AreChoicesOf-choices_of, denominator-pos}
use Rattle.formula_reader.specs.declared.formula.Bound.{Bound}
use Rattle.formula_reader.specs.declared.formula.Bound.TheVariants.{AtLeast, Above, AtMost, Below, AskMax, AskMin}
use Rattle.formula_reader.specs.declared.formula.PathKind.{PathKind}
use Rattle.formula_reader.specs.declared.formula.PathKind.TheVariants.{Until, Within, Next, Always}
use Rattle.rpatl_syntax.specs.Dual.{IsAtMostOne, dual_of, dual_bound}
use Rattle.formula_reader.specs.Formula.{Tree}
use Rattle.formula_sets.specs.Posing.{Model, next_question_of}
use Rattle.bounded_rounds.specs.Steps.{steps_from}
use Rattle.bounded_rounds.proofs.Stepping.{step_of}
use Rattle.bracket_engine.specs.Bracket.{complements_of}
use Rattle.verdicts.specs.declared.report.How.{How}
use Rattle.verdicts.specs.declared.verdict.Verdict.{Verdict}
use Rattle.verdicts.specs.Verdict.{verdict_of, is_asking}
use Rattle.verdicts.proofs.Mirrored.{mirrored as mirrored-verdict}
use Rattle.formula_truth.specs.declared.way.Way.TheVariants.{ByRounds}
use Rattle.formula_truth.specs.Truth.{states, everywhere, question_by}
use Rattle.formula_truth.specs.ThreeValued.{Band, Known, verdict_at, exactly, negated}
use Rattle.formula_truth.specs.InnerRuns.{AreAnswered, AreSwept, AreFoundBy, pessimistic, optimistic, units_at}
use Rattle.formula_truth.specs.InnerRuns.{mirrored}
use Rattle.formula_truth.specs.Sound.{IsAround, IsBetween}
use Rattle.formula_truth.specs.RoundBounds.{AreStepped, AreCoarseBy, IsFiner}
use Rattle.formula_truth.proofs.Posed.{is_query}
use Rattle.formula_truth.proofs.Stepped.{IsRounding, IsUnder, down-rounding, up-rounding, steps-rise, marked-units}
use Rattle.formula_truth.proofs.Stepped.{down_steps-most}
use Rattle.formula_truth.proofs.Sharper.{IsSharper, test_of, test-more, sharper, nearer}
use Rattle.formula_truth.proofs.Looked.{IsLookedAt, lower-valuation, upper-valuation, asked-lower, asked-upper}
use Rattle.formula_truth.proofs.Finer.{stepped-by, down-by, swapped_down-by}
use Rattle.formula_truth.proofs.Widened.{IsBounded, answered, swept, next-swept, not-within}

-- 1. What is shown at a state.

-- a band says of a bound at least what a coarse one says; where the bound asks for a value it
-- lies within the coarse one
pub record IsWithinAt (bound : Bound) (coarse fine : Band) (s : ℕ) : Type 0 where
  pub sharper : IsSharper (verdict_at bound coarse s) (verdict_at bound fine s)
  pub lower : is_asking bound ≡ true → slice_index coarse.lower s ≤ slice_index fine.lower s
  pub upper : is_asking bound ≡ true → slice_index fine.upper s ≤ slice_index coarse.upper s

-- what surely holds possibly does
abbrev pub IsConsistent : ℕ → Known → Type 0
IsConsistent n k = (s : ℕ) → s < n → k.sure s ≡ true → k.possible s ≡ true

sure-around : (m : Model) (k : Known) → IsConsistent (states m) k → IsAround m k.sure k
sure-around m k both = record { sure = λ s inside e. e; possible = both }

pub negated-consistent : (n : ℕ) (k : Known) → IsConsistent n k → IsConsistent n (negated k)
negated-consistent n k both s inside = not-within (k.sure s) (k.possible s) (both s inside)

pub negated-finer : (n : ℕ) (fine coarse : Known) → IsFiner n fine coarse → IsFiner n (negated fine) (negated coarse)
negated-finer n fine coarse h = record {
  sure = λ s inside. not-within (fine.possible s) (coarse.possible s) (h.possible s inside);
  possible = λ s inside. not-within (coarse.sure s) (fine.sure s) (h.sure s inside);
}

exactly-finer : (n : ℕ) (holds : ℕ → Bool) → IsFiner n (exactly holds) (exactly holds)
exactly-finer n holds = record { sure = λ s inside e. e; possible = λ s inside e. e }

-- 2. A table that values come near is not above a high one.

near-high : (top l u n p : ℕ) → 0 < p → (top + 1) * l * p ≤ top * ((top + 1) * n + p) → top * n ≤ u * p → l ≤ u
near-high top l u n p some near high =
    let whole : p * ((top + 1) * l) ≤ p * ((top + 1) * u + top) = omega (arith, near, mul-le-mul_left (top + 1) high) in
    let within : (top + 1) * l ≤ (top + 1) * u + top = le_of_mul-le-mul_left whole some in
    let below : (top + 1) * l < (top + 1) * (u + 1) = omega (arith, within) in
    let at : l < u + 1 = lt_of_mul-lt-mul_left (top + 1) below in
    omega (arith, at)

IsNear-under-high : (q : Query) (lower upper : ℕ → ℕ) → IsQuery q → IsNear q lower → IsHigh q upper → (s : ℕ)
    → s < length q.game → lower s ≤ upper s
IsNear-under-high q lower upper posed near high s inside =
    let at = near (unit + 1) (omega arith) in
    near-high unit (lower s) (upper s) (numerator q at.0 s) (denominator q.game ^ at.0)
    (omega (arith, one-le-pow at.0 (denominator q.game) (denominator-pos q.game posed.game))) (at.1 s inside)
    (high at.0 s inside)

-- 3. Rounds.

module _ (m : Model) (game : IsGame m.game) (f : Tree) (kl kr cl cr : Known) (lc : IsConsistent (states m) kl)
    (rc : IsConsistent (states m) kr) (lf : IsFiner (states m) kl cl) (rf : IsFiner (states m) kr cr) where
  raced-order : (bound : Bound) (starts : List ℕ) (asked : ℕ) (band : Band) (how : How)
      → AreAnswered (pessimistic m f kl kr) (optimistic m f kl kr) bound starts (ByRounds asked) band how
      → (s : ℕ) → s < states m → slice_index band.lower s ≤ slice_index band.upper s
  raced-order bound starts asked band how h s inside =
      let is =
      answered m game f kl.sure kr.sure kl kr (sure-around m kl lc) (sure-around m kr rc) bound starts (ByRounds asked)
      band how h in
      IsNear-under-high (question_by m f kl.sure kr.sure) (slice_index band.lower) (slice_index band.upper)
      (is_query m f kl.sure kr.sure game) is.near is.high s inside

  coarse-lower : (asked : ℕ) (coarse : Band)
      → AreStepped (pessimistic m f cl cr) (optimistic m f cl cr) (states m) asked coarse → (s : ℕ) → s < states m
      → slice_index coarse.lower s ≤ down_steps (pessimistic m f kl kr) asked s
  coarse-lower asked coarse c s inside =
      omega (arith, c.lower s inside, down-by m f cl.sure cr.sure kl.sure kr.sure game lf.sure rf.sure asked s inside)

  coarse-upper : (asked : ℕ) (coarse : Band) (zero_set : List Bool) → IsZeroSet (optimistic m f kl kr) zero_set
      → AreStepped (pessimistic m f cl cr) (optimistic m f cl cr) (states m) asked coarse → (s : ℕ) → s < states m
      → unit - down_steps (swapped (optimistic m f kl kr) zero_set) asked s ≤ slice_index coarse.upper s
  coarse-upper asked coarse zero_set is c s inside =
      omega (
        arith,
        c.upper s inside,
        swapped_down-by m f kl.possible kr.possible cl.possible cr.possible game lf.possible rf.possible zero_set c.zero
            is c.is_zero asked s inside,
      )

  pub raced-within : (bound : Bound) (starts : List ℕ) (asked : ℕ) (band coarse : Band) (how : How)
      → AreAnswered (pessimistic m f kl kr) (optimistic m f kl kr) bound starts (ByRounds asked) band how
      → AreStepped (pessimistic m f cl cr) (optimistic m f cl cr) (states m) asked coarse → (s : ℕ) → s < states m
      → IsLookedAt bound starts s → IsWithinAt bound coarse band s
  raced-within bound starts asked band coarse how h c s inside looked =
      let low : Query = pessimistic m f kl kr in
      let high : Query = optimistic m f kl kr in
      let low_is : IsQuery low = is_query m f kl.sure kr.sure game in
      let high_is : IsQuery high = is_query m f kl.possible kr.possible game in
      let down : ℕ = down_steps low asked s in
      let low_run = h.low_answer in
      let high_run = h.high_answer in
      let rest : ℕ = unit - down_steps (swapped high high_run.zero) asked s in
      let under = coarse-lower asked coarse c s inside in
      let over = coarse-upper asked coarse high_run.zero high_run.is_zero c s inside in
      let lower_is : slice_index band.lower s ≡ slice_index low_run.found.plan.lower.items s =
      ap (λ (t : List ℕ). slice_index t s) low_run.lower_is in
      let upper_is : slice_index band.upper s ≡ slice_index high_run.found.plan.upper.items s =
      ap (λ (t : List ℕ). slice_index t s) high_run.upper_is in
      record {
        sharper = sharper bound (slice_index coarse.lower s) (slice_index coarse.upper s) (slice_index band.lower s)
            (slice_index band.upper s) (raced-order bound starts asked band how h s inside)
            (λ passes. ap (test_of bound) lower_is
            ∙ lower-valuation low low_run.zero bound starts asked low_run.found low_is low_run.is_zero
            low_run.is_found s inside looked (test-more bound (slice_index coarse.lower s) down under passes))
            (λ passes. test-more bound rest (slice_index coarse.upper s) over
            (upper-valuation high high_run.zero bound starts asked high_run.found high_is high_run.is_zero
            high_run.is_found s inside looked (sym (ap (test_of bound) upper_is) ∙ passes)));
        lower = λ asking. omega (
          arith,
          lower_is,
          under,
          asked-lower low low_run.zero bound starts asked low_run.found low_is low_run.is_zero low_run.is_found s
              inside looked asking,
        );
        upper = λ asking. omega (
          arith,
          upper_is,
          over,
          asked-upper high high_run.zero bound starts asked high_run.found high_is high_run.is_zero
              high_run.is_found s inside looked asking,
        );
      }

  -- 4. So many steps, and one.

  nearer-within : (bound : Bound) (band coarse : Band) (s : ℕ) → slice_index band.lower s ≤ slice_index band.upper s
      → slice_index coarse.lower s ≤ slice_index band.lower s → slice_index band.upper s ≤ slice_index coarse.upper s
      → IsWithinAt bound coarse band s
  nearer-within bound band coarse s order more less = record {
    sharper = nearer bound (slice_index coarse.lower s) (slice_index coarse.upper s) (slice_index band.lower s)
        (slice_index band.upper s) order more less;
    lower = λ asking. more;
    upper = λ asking. less;
  }

  between-order : (p l u v : ℕ) → 0 < p → IsBetween p l u v → l ≤ u
  between-order p l u v some h =
      let whole : p * l ≤ p * u = omega (arith, h.low, h.high) in
      le_of_mul-le-mul_left whole some

  entry-of : (low high low' high' : ℕ) → low' ≡ low → high' ≡ high → low ≤ high → low' ≤ high'
  entry-of low high low' high' e e' h = omega arith

  pub swept-within : (k : ℕ) (band coarse : Band) (how how' : How) → AreSwept (pessimistic m f kl kr)
      (optimistic m f kl kr) (opening (pessimistic m f kl kr)) (opening (optimistic m f kl kr)) k band how
      → AreSwept (pessimistic m f cl cr) (optimistic m f cl cr) (opening (pessimistic m f cl cr))
      (opening (optimistic m f cl cr)) k coarse how' → (s : ℕ) → s < states m → IsWithinAt f.bound coarse band s
  swept-within k band coarse how how' h c s inside =
      nearer-within f.bound band coarse s
      (between-order (denominator m.game ^ k) _ _ _
      (omega (arith, one-le-pow k (denominator m.game) (denominator-pos m.game game)))
      (swept m game f kl.sure kr.sure kl kr (sure-around m kl lc) (sure-around m kr rc) k band how h s inside))
      (entry-of _ _ _ _ (c.low_swept.down s inside) (h.low_swept.down s inside)
      (stepped-by m f cl.sure cr.sure kl.sure kr.sure game lf.sure rf.sure (λ x w. x / w) down-rounding k s inside))
      (entry-of _ _ _ _ (h.high_swept.up s inside) (c.high_swept.up s inside) (stepped-by m f kl.possible kr.possible
      cl.possible cr.possible game lf.possible rf.possible (λ x w. (x + (w - 1)) / w) up-rounding k s inside))

  units-rise : (here there : Bool) → (here ≡ true → there ≡ true)
      → (if here then unit else 0) ≤ (if there then unit else 0)
  units-rise true true more = let at : unit ≤ unit = omega arith in at
  units-rise true false more = let no : false ≡ true = more refl in absurd (cc)
  units-rise false there more = let at : 0 ≤ (if there then unit else 0) = omega arith in at

  next-by : (round : ℕ → ℕ → ℕ) → IsRounding round → (here there : ℕ → Bool)
      → ((s : ℕ) → s < states m → here s ≡ true → there s ≡ true)
      → IsUnder (states m) (steps_from (step_of round (next_question_of m.game m.owners f)) (units_at here) 1)
      (steps_from (step_of round (next_question_of m.game m.owners f)) (units_at there) 1)
  next-by round is here there more =
      let q : Query = next_question_of m.game m.owners f in
      steps-rise m.game q.sides q.goals q.deads q.goals q.deads (λ s e. e) (λ s e. e)
      (AreChoicesOf-choices_of m.game game) round is (units_at here) (units_at there) (marked-units (states m) here)
      (λ s inside. units-rise (here s) (there s) (more s inside)) 1

  pub next-within : (band coarse : Band) (how how' : How) → AreSwept (next_question_of m.game m.owners f)
      (next_question_of m.game m.owners f) (units_at kr.sure) (units_at kr.possible) 1 band how
      → AreSwept (next_question_of m.game m.owners f) (next_question_of m.game m.owners f) (units_at cr.sure)
      (units_at cr.possible) 1 coarse how' → (s : ℕ) → s < states m → IsWithinAt f.bound coarse band s
  next-within band coarse how how' h c s inside =
      nearer-within f.bound band coarse s
      (between-order (denominator m.game) _ _ _ (denominator-pos m.game game)
      (next-swept m game f kl.sure kr.sure kl kr (sure-around m kl lc) (sure-around m kr rc) band how h s inside))
      (entry-of _ _ _ _ (c.low_swept.down s inside) (h.low_swept.down s inside)
      (next-by (λ x w. x / w) down-rounding cr.sure kr.sure rf.sure s inside))
      (entry-of _ _ _ _ (h.high_swept.up s inside) (c.high_swept.up s inside)
      (next-by (λ x w. (x + (w - 1)) / w) up-rounding kr.possible cr.possible rf.possible s inside))

-- 5. 1 less the bounds of the dual.

pub complement-entry : (values : List ℕ) (s : ℕ) → s < length values
    → slice_index (complements_of values) s ≡ unit - slice_index values s
complement-entry values s inside = get_or-map (λ v. unit - v) values s 0 0 inside

-- both tables have an entry of at most the unit
pub record HasUnits (band : Band) (s : ℕ) : Type 0 where
  pub lowers : s < length band.lower
  pub uppers : s < length band.upper
  pub lower : slice_index band.lower s ≤ unit
  pub upper : slice_index band.upper s ≤ unit

pub verdict-mirrored : (bound : Bound) (band : Band) (s : ℕ) → IsAtMostOne bound → HasUnits band s
    → verdict_at bound (mirrored band) s ≡ verdict_at (dual_bound bound) band s
verdict-mirrored bound band s small h =
    ap (λ v. verdict_of bound v (slice_index (mirrored band).upper s)) (complement-entry band.upper s h.uppers)
    ∙ ap (λ v. verdict_of bound (unit - slice_index band.upper s) v) (complement-entry band.lower s h.lowers)
    ∙ mirrored-verdict bound (slice_index band.lower s) (slice_index band.upper s) small h.lower h.upper

asking-dual : (bound : Bound) → is_asking bound ≡ true → is_asking (dual_bound bound) ≡ true
asking-dual (AtLeast p) e = e
asking-dual (Above p) e = e
asking-dual (AtMost p) e = e
asking-dual (Below p) e = e
asking-dual AskMax e = e
asking-dual AskMin e = e

pub mirrored-within : (bound : Bound) (coarse fine : Band) (s : ℕ) → IsAtMostOne bound
    → HasUnits coarse s → HasUnits fine s → IsWithinAt (dual_bound bound) coarse fine s
    → IsWithinAt bound (mirrored coarse) (mirrored fine) s
mirrored-within bound coarse fine s small c h at = record {
  sharper = subst (λ (v : Verdict). IsSharper v (verdict_at bound (mirrored fine) s))
      (sym (verdict-mirrored bound coarse s small c))
      (subst (λ (v : Verdict). IsSharper (verdict_at (dual_bound bound) coarse s) v)
      (sym (verdict-mirrored bound fine s small h)) at.sharper);
  lower = λ asking. omega (
    arith,
    at.upper (asking-dual bound asking),
    complement-entry coarse.upper s c.uppers,
    complement-entry fine.upper s h.uppers,
  );
  upper = λ asking. omega (
    arith,
    at.lower (asking-dual bound asking),
    complement-entry coarse.lower s c.lowers,
    complement-entry fine.lower s h.lowers,
  );
}

pub bounded-units : (m : Model) (f : Tree) (left right : ℕ → Bool) (band : Band) → IsBounded m f left right band
    → (s : ℕ) → s < states m → HasUnits band s
bounded-units m f left right band h s inside =
    let lowers : s < length band.lower = omega (arith, inside, h.lowers) in
    let uppers : s < length band.upper = omega (arith, inside, h.uppers) in
    record { lowers = lowers; uppers = uppers; lower = h.lower_units s 0 lowers; upper = h.upper_units s 0 uppers }

stepped-units : (low high : Query) (asked : ℕ) (band : Band) → IsQuery low
    → AreStepped low high (length low.game) asked band → (s : ℕ) → s < length low.game → HasUnits band s
stepped-units low high asked band posed h s inside = record {
  lowers = omega (arith, inside, h.lowers);
  uppers = omega (arith, inside, h.uppers);
  lower = omega (arith, h.lower s inside, down_steps-most low posed asked s inside);
  upper = omega (arith, h.upper s inside);
}

-- 6. Of every kind.

module _ (m : Model) (game : IsGame m.game) (f : Tree) (small : IsAtMostOne f.bound) (kl kr cl cr : Known)
    (lc : IsConsistent (states m) kl) (rc : IsConsistent (states m) kr) (lf : IsFiner (states m) kl cl)
    (rf : IsFiner (states m) kr cr)
    (starts : List ℕ) (asked : ℕ) (band coarse : Band) (how : How) (s : ℕ) (inside : s < states m)
    (looked : (bound : Bound) → IsLookedAt bound starts s) where
  always-within : AreFoundBy Always m f kl kr starts (ByRounds asked) band how
      → AreCoarseBy Always m f cl cr asked coarse → IsWithinAt f.bound coarse band s
  always-within h c =
      let g : Tree = dual_of f in
      let bound : Bound = dual_bound f.bound in
      let all : Known = exactly everywhere in
      let consistent = negated-consistent (states m) kr rc in
      let fine = answered m game g everywhere (negated kr).sure all (negated kr) (sure-around m all (λ t h e. e))
      (sure-around m (negated kr) consistent) bound starts (ByRounds asked) h.0 how h.1 in
      let at = raced-within m game g all (negated kr) all (negated cr) (λ t h e. e) consistent
      (exactly-finer (states m) everywhere) (negated-finer (states m) kr cr rf)
      bound starts asked h.0 c.0 how h.1 c.1 s inside (looked bound) in
      let both = mirrored-within f.bound c.0 h.0 s small
      (stepped-units (pessimistic m g all (negated cr)) (optimistic m g all (negated cr)) asked c.0
      (is_query m g everywhere (negated cr).sure game) c.1 s inside)
      (bounded-units m g everywhere (negated kr).sure h.0 fine s inside) at in
      subst (λ (x : Band). IsWithinAt f.bound x band s) (sym c.2)
      (subst (λ (x : Band). IsWithinAt f.bound (mirrored c.0) x s) (sym h.2) both)

  pub within-by : (kind : PathKind) → AreFoundBy kind m f kl kr starts (ByRounds asked) band how
      → AreCoarseBy kind m f cl cr asked coarse → IsWithinAt f.bound coarse band s
  within-by Until h c =
      raced-within m game f kl kr cl cr lc rc lf rf f.bound starts asked band coarse how h c s inside (looked f.bound)
  within-by (Within k) h c = swept-within m game f kl kr cl cr lc rc lf rf k band coarse how c.0 h c.1 s inside
  within-by Next h c = next-within m game f kl kr cl cr lc rc lf rf band coarse how c.0 h c.1 s inside
  within-by Always h c = always-within h c
