-- Bounds of the sure and the possible states are sound for the states between.
use Rattle.std.proofs.Common.{◌≡◌, ◌<◌, ◌≤◌, ◌+◌, ◌-◌, ◌*◌, ◌^◌, ℕ, Bool, true, false, not, List, length, arith}
use Rattle.std.proofs.Common.{sym, ap, subst, refl}
use Rattle.std.specs.Prelude.{slice_index, All}
use Rattle.std.proofs.Math.Nat.{mul-le-mul_left}
use Rattle.std.proofs.lemmas.List.{get_or-map}
use Rattle.std.proofs.lemmas.List.Elements.{All-from_get_or}
use Rattle.game_model.specs.Game.{IsGame}
use Rattle.game_model.specs.Limits.{unit}
use Rattle.game_model.specs.Query.{Query, IsQuery}
use Rattle.game_model.specs.Values.{denominator, numerator}
use Rattle.game_model.specs.Bounds.{IsNear, IsHigh}
use Rattle.game_model.specs.Rounded.{opening}
use Rattle.game_model.proofs.Choices.{AreChoicesOf-choices_of}
use Rattle.formula_reader.specs.declared.formula.Bound.{Bound}
use Rattle.formula_reader.specs.declared.formula.PathKind.{PathKind}
use Rattle.formula_reader.specs.declared.formula.PathKind.TheVariants.{Until, Within, Next, Always}
use Rattle.rpatl_syntax.specs.Dual.{dual_of, dual_bound}
use Rattle.formula_reader.specs.Formula.{Tree}
use Rattle.formula_sets.specs.Posing.{Model, next_question_of}
use Rattle.formula_sets.proofs.AskingNext.{never_marked}
use Rattle.bounded_rounds.specs.Exact.{next_numerator, IsNext}
use Rattle.bounded_rounds.proofs.Bracketed.{IsBracketed-opening, IsBracketed-next}
use Rattle.rank_certificate.proofs.Nearness.{Ranked-near}
use Rattle.verdicts.specs.declared.report.How.{How}
use Rattle.formula_truth.specs.declared.way.Way.{Way}
use Rattle.formula_truth.specs.declared.way.Way.TheVariants.{ByRounds, BySolver}
use Rattle.formula_truth.specs.Truth.{states, question_by, dual_question_by, everywhere}
use Rattle.formula_truth.specs.Rest.{IsBelowRest, IsNearRest}
use Rattle.formula_truth.specs.ThreeValued.{Band, Known, exactly, negated}
use Rattle.formula_truth.specs.InnerRuns.{IsAnsweredBy, AreAnswered, AreSwept, AreFoundBy, pessimistic, optimistic}
use Rattle.formula_truth.specs.InnerRuns.{units_at}
use Rattle.formula_truth.specs.InnerRuns.{mirrored}
use Rattle.formula_truth.specs.Sound.{IsAround, IsBetween, AreSoundBy}
use Rattle.formula_truth.proofs.Ordered.{next_numerator-wider}
use Rattle.formula_truth.proofs.Posed.{is_query, is_next_query, numerator-rises, IsNear-rises, IsHigh-falls}

-- 1. What is around a state formula is around its negation.

pub not-within : (here there : Bool) → (here ≡ true → there ≡ true) → not there ≡ true → not here ≡ true
not-within true true more fails = fails
not-within true false more fails = let e : false ≡ true = more refl in absurd (cc)
not-within false there more fails = refl

pub negated-around : (m : Model) (holds : ℕ → Bool) (k : Known) → IsAround m holds k
    → IsAround m (λ s. not (holds s)) (negated k)
negated-around m holds k h = record {
  sure = λ s inside. not-within (holds s) (k.possible s) (h.possible s inside);
  possible = λ s inside. not-within (k.sure s) (holds s) (h.sure s inside);
}

pub exactly-around : (m : Model) (holds : ℕ → Bool) → IsAround m holds (exactly holds)
exactly-around m holds = record { sure = λ s inside e. e; possible = λ s inside e. e }

-- 2. An answer to a question is sound, whoever found it.

record IsSoundAnswer (q : Query) (lower upper : List ℕ) : Type 0 where
  near : IsNear q (slice_index lower)
  high : IsHigh q (slice_index upper)
  lowers : length lower ≡ length q.game
  uppers : length upper ≡ length q.game
  lower_units : All (λ v. v ≤ unit) lower
  upper_units : All (λ v. v ≤ unit) upper

sound-answer : (way : Way) (q : Query) (bound : Bound) (starts lower upper : List ℕ) (how : How) → IsQuery q
    → IsAnsweredBy way q bound starts lower upper how → IsSoundAnswer q lower upper
sound-answer (ByRounds asked) q bound starts lower upper how posed h =
    let found = h.is_found in
    let least = found.bounds.made.least_upper.table in
    subst (λ (t : List ℕ). IsSoundAnswer q t upper) (sym h.lower_is)
    (subst (λ (t : List ℕ). IsSoundAnswer q h.found.plan.lower.items t) (sym h.upper_is) (record {
      near = found.lower.near;
      high = found.bounds.sound.high;
      lowers = found.lower.as_many;
      uppers = least.many;
      lower_units = found.lower.units;
      upper_units = least.units;
    }))
sound-answer BySolver q bound starts lower upper how posed h =
    let table : List ℕ = h.plan.lower.items in
    let ranked = h.is_plan.passes.ranked in
    subst (λ (t : List ℕ). IsSoundAnswer q t upper) (sym h.lower_is)
    (subst (λ (t : List ℕ). IsSoundAnswer q table t) (sym h.upper_is) (record {
      near = Ranked-near q table h.plan.choices.items h.plan.ranks.items posed ranked;
      high = h.is_plan.sound.high;
      lowers = h.is_plan.lists.lower;
      uppers = h.is_plan.lists.upper;
      lower_units = All-from_get_or (λ v. v ≤ unit) table 0
          (λ s within. ranked.units s (omega (arith, within, h.is_plan.lists.lower)));
      upper_units = h.is_plan.passes.units;
    }))

pub record IsBounded (m : Model) (f : Tree) (left right : ℕ → Bool) (band : Band) : Type 0 where
  pub near : IsNear (question_by m f left right) (slice_index band.lower)
  pub high : IsHigh (question_by m f left right) (slice_index band.upper)
  pub lowers : length band.lower ≡ states m
  pub uppers : length band.upper ≡ states m
  pub lower_units : All (λ v. v ≤ unit) band.lower
  pub upper_units : All (λ v. v ≤ unit) band.upper

module _ (m : Model) (game : IsGame m.game) (f : Tree) (left right : ℕ → Bool) (kl kr : Known) (la : IsAround m left kl)
    (ra : IsAround m right kr) where
  pub answered : (bound : Bound) (starts : List ℕ) (way : Way) (band : Band) (how : How)
      → AreAnswered (pessimistic m f kl kr) (optimistic m f kl kr) bound starts way band how
      → IsBounded m f left right band
  answered bound starts way band how h =
      let low = sound-answer way (pessimistic m f kl kr) bound starts band.lower h.low_upper how
      (is_query m f kl.sure kr.sure game) h.low_answer in
      let high = sound-answer way (optimistic m f kl kr) bound starts h.high_lower band.upper h.high_how
      (is_query m f kl.possible kr.possible game) h.high_answer in
      record {
        near = IsNear-rises m f kl.sure kr.sure left right game la.sure ra.sure (slice_index band.lower) low.near;
        high = IsHigh-falls m f left right kl.possible kr.possible game la.possible ra.possible
            (slice_index band.upper) high.high;
        lowers = low.lowers;
        uppers = high.uppers;
        lower_units = low.lower_units;
        upper_units = high.upper_units;
      }

  -- 3. So many steps.

  pub swept : (k : ℕ) (band : Band) (how : How) → AreSwept (pessimistic m f kl kr) (optimistic m f kl kr)
      (opening (pessimistic m f kl kr)) (opening (optimistic m f kl kr)) k band how → (s : ℕ) → s < states m
      → IsBetween (denominator m.game ^ k) (slice_index band.lower s) (slice_index band.upper s)
      (unit * numerator (question_by m f left right) k s)
  swept k band how h s inside =
      let low = IsBracketed-opening (pessimistic m f kl kr) k band.lower h.low_upper
      (is_query m f kl.sure kr.sure game) h.low_swept s inside in
      let high = IsBracketed-opening (optimistic m f kl kr) k h.high_lower band.upper
      (is_query m f kl.possible kr.possible game) h.high_swept s inside in
      record {
        low = omega (
          arith,
          low.low,
          mul-le-mul_left unit (numerator-rises m f kl.sure kr.sure left right game la.sure ra.sure k s),
        );
        high = omega (
          arith,
          high.high,
          mul-le-mul_left unit
              (numerator-rises m f left right kl.possible kr.possible game la.possible ra.possible k s),
        );
      }

  -- 4. One step.

  pub next-opens : (holds : ℕ → Bool) → IsNext (next_question_of m.game m.owners f) (units_at holds) holds
  next-opens holds = record {
    goals = λ s inside. never_marked (states m) s;
    deads = λ s inside. never_marked (states m) s;
    opens = λ s inside. refl;
  }

  pub next-swept : (band : Band) (how : How) → AreSwept (next_question_of m.game m.owners f)
      (next_question_of m.game m.owners f) (units_at kr.sure) (units_at kr.possible) 1 band how → (s : ℕ)
      → s < states m → IsBetween (denominator m.game) (slice_index band.lower s) (slice_index band.upper s)
      (unit * next_numerator (next_question_of m.game m.owners f) right s)
  next-swept band how h s inside =
      let q = next_question_of m.game m.owners f in
      let chosen = AreChoicesOf-choices_of m.game game in
      let low = IsBracketed-next q (units_at kr.sure) kr.sure band.lower h.low_upper (is_next_query m f game)
      (next-opens kr.sure) h.low_swept s inside in
      let high = IsBracketed-next q (units_at kr.possible) kr.possible h.high_lower band.upper (is_next_query m f game)
      (next-opens kr.possible) h.high_swept s inside in
      record {
        low = omega (arith, low.low, mul-le-mul_left unit (next_numerator-wider q kr.sure right chosen ra.sure s));
        high = omega
            (arith, high.high, mul-le-mul_left unit (next_numerator-wider q right kr.possible chosen ra.possible s));
      }

-- 5. 1 less the bounds.

below-rest : (top u r d n : ℕ) → r + u ≡ top → top * n ≤ u * d → r * d + top * n ≤ top * d
below-rest top u r d n whole high = omega (arith, high, ap (λ x. x * d) whole)

near-rest : (top l r d n m : ℕ) → r + l ≡ top → m * l * d ≤ top * (m * n + d)
    → top * (m * d) ≤ m * r * d + top * (m * n + d)
near-rest top l r d n m whole near = omega (arith, near, ap (λ x. x * (m * d)) whole)

pub complement-at : (values : List ℕ) (s : ℕ) → s < length values → All (λ v. v ≤ unit) values
    → (slice_index (mirrored (record { lower = values; upper = values })).lower s ≡ unit - slice_index values s)
    × (slice_index values s ≤ unit)
complement-at values s inside units = (get_or-map (λ v. unit - v) values s 0 0 inside, units s 0 inside)

module _ (m : Model) (f : Tree) (right : ℕ → Bool) (other : Band)
    (h : IsBounded m (dual_of f) everywhere (λ s. not (right s)) other) where
  pub mirrored-sound : (s : ℕ) → s < states m
      → IsBelowRest (dual_question_by m f right) s (slice_index (mirrored other).lower s)
      × IsNearRest (dual_question_by m f right) s (slice_index (mirrored other).upper s)
  mirrored-sound s inside =
      let q = dual_question_by m f right in
      let D : ℕ = denominator m.game in
      let up = complement-at other.upper s (omega (arith, h.uppers)) h.upper_units in
      let low = complement-at other.lower s (omega (arith, h.lowers)) h.lower_units in (
        (λ k. below-rest unit (slice_index other.upper s) (slice_index (mirrored other).lower s) (D ^ k)
            (numerator q k s) (omega (arith, up)) (h.high k s inside)),
        (λ n some.
            let at = h.near n some in (
              at.0,
              near-rest unit (slice_index other.lower s) (slice_index (mirrored other).upper s) (D ^ at.0)
                  (numerator q at.0 s) n (omega (arith, low)) (at.1 s inside),
            )),
      )

-- 6. Every kind of path.

module _ (m : Model) (game : IsGame m.game) (f : Tree) (left right : ℕ → Bool) (kl kr : Known) (la : IsAround m left kl)
    (ra : IsAround m right kr) (starts : List ℕ) (way : Way) (band : Band) (how : How) where
  pub sound-by : (kind : PathKind) → AreFoundBy kind m f kl kr starts way band how
      → AreSoundBy kind m f left right band
  sound-by Until h =
      let found = answered m game f left right kl kr la ra f.bound starts way band how h in
      (found.near, found.high)
  sound-by (Within k) h = swept m game f left right kl kr la ra k band how h
  sound-by Next h = next-swept m game f left right kl kr la ra band how h
  sound-by Always h =
      let found = answered m game (dual_of f) everywhere (λ s. not (right s)) (exactly everywhere) (negated kr)
      (exactly-around m everywhere) (negated-around m right kr ra) (dual_bound f.bound) starts way h.0 how h.1 in
      subst (λ (b : Band). AreSoundBy Always m f left right b) (sym h.2) (mirrored-sound m f right h.0 found)
