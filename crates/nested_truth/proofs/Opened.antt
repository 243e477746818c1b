-- Where nothing inside is undecided, what is undecided is left open.
use Rattle.std.proofs.Common.{◌≡◌, ◌∙◌, ◌<◌, ◌≤◌, ◌-◌, ◌*◌, ◌^◌, inl, inr, ℕ, Bool, not, List, length}
use Rattle.std.proofs.Common.{get_or, arith, sym, ap, subst, refl, le_refl}
use Rattle.std.specs.Prelude.{slice_index, All}
use Rattle.std.proofs.Math.Nat.{one-le-pow}
use Rattle.std.proofs.lemmas.List.{length-map}
use Rattle.game_model.specs.Game.{IsGame}
use Rattle.game_model.specs.Limits.{unit}
use Rattle.game_model.specs.Query.{Query, IsQuery}
use Rattle.game_model.specs.Values.{denominator, numerator}
use Rattle.game_model.specs.Rounded.{opening}
use Rattle.game_model.proofs.Choices.{denominator-pos}
use Rattle.formula_reader.specs.declared.formula.Bound.{Bound}
use Rattle.formula_reader.specs.declared.formula.PathKind.{PathKind}
use Rattle.formula_reader.specs.declared.formula.PathKind.TheVariants.{Until, Within, Next, Always}
use Rattle.rpatl_syntax.specs.Dual.{IsAtMostOne, dual_of, dual_bound}
use Rattle.formula_reader.specs.Formula.{Tree}
use Rattle.formula_sets.specs.Posing.{Model, next_question_of}
use Rattle.bounded_rounds.specs.Exact.{IsBracketed, next_numerator}
use Rattle.bounded_rounds.specs.Steps.{IsSweep}
use Rattle.bounded_rounds.proofs.Bracketed.{IsBracketed-opening, IsBracketed-next}
use Rattle.plan_text.specs.declared.plan.Plan.{Plan}
use Rattle.bracket_engine.specs.declared.bounds.Bracket.{Bracket}
use Rattle.bracket_engine.specs.Bracket.{complements_of}
use Rattle.bracket_engine.specs.BracketOfRun.{IsBracketOfRun}
use Rattle.bracket_engine.proofs.Opening.{left-open}
use Rattle.verdicts.specs.declared.report.How.{How}
use Rattle.verdicts.specs.declared.verdict.Verdict.TheVariants.{Undecided}
use Rattle.verdicts.specs.Open.{LeavesOpen, IsLeftOpen, IsLeftOpenBy}
use Rattle.verdicts.specs.Verdict.{verdict_of}
use Rattle.verdicts.proofs.Opening.{open-here, open-wider}
use Rattle.formula_truth.specs.Truth.{states, everywhere, question_by}
use Rattle.formula_truth.specs.ThreeValued.{Band, exactly, negated, verdict_at}
use Rattle.formula_truth.specs.declared.way.Way.TheVariants.{ByRounds}
use Rattle.formula_truth.specs.InnerRuns.{AreAnswered, AreSwept, AreFoundBy, IsRun, mirrored, units_at}
use Rattle.nested_truth.specs.Open.{IsRunOpen, IsOpenBy}
use Rattle.formula_truth.proofs.Posed.{is_query, is_next_query}
use Rattle.formula_truth.proofs.Looked.{IsLookedAt, looked-start}
use Rattle.formula_truth.proofs.Widened.{answered, next-opens, exactly-around, negated-around}
use Rattle.formula_truth.proofs.Coarsely.{HasUnits, bounded-units, verdict-mirrored, complement-entry}

-- 1. A run on one question, at a state where it looks.

found-open : (q : Query) (zero : List Bool) (bound : Bound) (starts : List ℕ) (asked : ℕ) (found : Bracket)
    → IsQuery q → IsBracketOfRun q zero bound starts asked found → (s : ℕ) → s < length q.game
    → IsLookedAt bound starts s
    → verdict_of bound (slice_index found.plan.lower.items s) (slice_index found.plan.upper.items s) ≡ Undecided
    → IsLeftOpen q zero bound asked (slice_index found.plan.lower.items) (slice_index found.plan.upper.items) s
found-open q zero bound starts asked found posed run s inside looked undecided =
    let base : ℕ → ℕ = slice_index found.base.items in
    let upper : ℕ → ℕ = slice_index found.plan.upper.items in
    left-open q posed zero bound asked base upper (slice_index found.plan.lower.items) upper s inside
    (run.lower.above s inside) (le_refl (upper s)) undecided
    (elim run.bounds.near.narrow_asked [ inl settled ↦ inl (looked base upper settled) | inr narrow ↦ inr narrow ])

raced-open : (q : Query) (bound : Bound) (starts : List ℕ) (asked : ℕ) (band : Band) (how : How) (s : ℕ)
    → IsQuery q → s < length q.game → IsLookedAt bound starts s → AreAnswered q q bound starts (ByRounds asked) band how
    → verdict_at bound band s ≡ Undecided → IsRunOpen q bound asked band s
raced-open q bound starts asked band how s posed inside looked h undecided =
    let run : IsRun q bound starts asked band.lower band.upper how =
    subst (λ (u : List ℕ). IsRun q bound starts asked band.lower u how) (h.one refl) h.low_answer in
    let found : Bracket = run.found in
    let plan : Plan = found.plan in
    let lower : band.lower ≡ plan.lower.items = run.lower_is in
    let upper : band.upper ≡ plan.upper.items = run.upper_is in
    let here : verdict_of bound (slice_index plan.lower.items s) (slice_index plan.upper.items s) ≡ Undecided =
    subst (λ (l : List ℕ). verdict_of bound (slice_index l s) (slice_index plan.upper.items s) ≡ Undecided) lower
    (subst (λ (u : List ℕ). verdict_of bound (slice_index band.lower s) (slice_index u s) ≡ Undecided) upper
    undecided) in
    let at : IsLeftOpen q run.zero bound asked (slice_index plan.lower.items) (slice_index plan.upper.items) s =
    found-open q run.zero bound starts asked found posed run.is_found s inside looked here in
    record {
      zero = run.zero;
      is_zero = run.is_zero;
      is_open = subst (λ (l : List ℕ).
          IsLeftOpen q run.zero bound asked (slice_index l) (slice_index band.upper) s) (sym lower)
          (subst (λ (u : List ℕ).
          IsLeftOpen q run.zero bound asked (slice_index plan.lower.items) (slice_index u) s) (sym upper) at);
    }

-- 2. So many steps, and one.

bracketed-open : (bound : Bound) (steps n d lower upper : ℕ) → 1 ≤ d → IsBracketed steps d lower upper (unit * n)
    → verdict_of bound lower upper ≡ Undecided → IsLeftOpenBy bound steps n d lower upper
bracketed-open bound steps n d lower upper some h undecided =
    let printed = open-here bound lower upper undecided in
    record {
      printed = printed;
      near = open-wider bound lower upper (unit * n) (unit * n) d steps some h.near_low h.near_high printed;
    }

swept-sweep : (q : Query) (opens : ℕ → ℕ) (steps : ℕ) (band : Band) (how : How)
    → AreSwept q q opens opens steps band how → IsSweep q opens steps band.lower band.upper
swept-sweep q opens steps band how h =
    record { lowers = h.low_swept.lowers; uppers = h.high_swept.uppers; down = h.low_swept.down; up = h.high_swept.up }

-- 3. 1 less the bounds of 1 less the bounds.

twice-complement : (values : List ℕ) (s : ℕ) → s < length values → slice_index values s ≤ unit
    → slice_index (complements_of (complements_of values)) s ≡ slice_index values s
twice-complement values s inside small = omega (
  arith,
  complement-entry (complements_of values) s (omega (arith, inside, length-map values (λ (v : ℕ). unit - v))),
  complement-entry values s inside,
  small,
)

open-same : (q : Query) (bound : Bound) (asked : ℕ) (band other : Band) (s : ℕ)
    → slice_index other.lower s ≡ slice_index band.lower s → slice_index other.upper s ≡ slice_index band.upper s
    → IsRunOpen q bound asked band s → IsRunOpen q bound asked other s
open-same q bound asked band other s lower upper h = record {
  zero = h.zero;
  is_zero = h.is_zero;
  is_open = record {
    printed = subst (λ l. LeavesOpen bound l (slice_index other.upper s) 1 0) (sym lower)
        (subst (λ u. LeavesOpen bound (slice_index band.lower s) u 1 0) (sym upper) h.is_open.printed);
    swept = h.is_open.swept;
    near = h.is_open.near;
  };
}

-- 4. Of every kind of path.

module _ (m : Model) (game : IsGame m.game) (f : Tree) (small : IsAtMostOne f.bound) (left right : ℕ → Bool)
    (starts : List ℕ) (asked : ℕ) (band : Band) (how : How) (s : ℕ) (inside : s < states m)
    (looked : (bound : Bound) → IsLookedAt bound starts s) where
  always-open : AreFoundBy Always m f (exactly left) (exactly right) starts (ByRounds asked) band how
      → verdict_at f.bound band s ≡ Undecided → IsOpenBy Always m f left right asked band s
  always-open h undecided =
      let g : Tree = dual_of f in
      let bound : Bound = dual_bound f.bound in
      let fails : ℕ → Bool = λ t. not (right t) in
      let q : Query = question_by m g everywhere fails in
      let fine =
      answered m game g everywhere fails (exactly everywhere) (negated (exactly right)) (exactly-around m everywhere)
      (negated-around m right (exactly right) (exactly-around m right)) bound starts (ByRounds asked) h.0 how h.1 in
      let units : HasUnits h.0 s = bounded-units m g everywhere fails h.0 fine s inside in
      let here : verdict_at bound h.0 s ≡ Undecided = sym (verdict-mirrored f.bound h.0 s small units)
      ∙ ap (λ (b : Band). verdict_at f.bound b s) (sym h.2) ∙ undecided in
      let at : IsRunOpen q bound asked h.0 s =
      raced-open q bound starts asked h.0 how s (is_query m g everywhere fails game) inside (looked bound) h.1 here in
      subst (λ (b : Band). IsRunOpen q bound asked (mirrored b) s) (sym h.2)
      (open-same q bound asked h.0 (mirrored (mirrored h.0)) s (twice-complement h.0.lower s units.lowers units.lower)
      (twice-complement h.0.upper s units.uppers units.upper) at)

  pub opened : (kind : PathKind) → AreFoundBy kind m f (exactly left) (exactly right) starts (ByRounds asked) band how
      → verdict_at f.bound band s ≡ Undecided → IsOpenBy kind m f left right asked band s
  opened Until h undecided = raced-open (question_by m f left right) f.bound starts asked band how s
      (is_query m f left right game) inside (looked f.bound) h undecided
  opened (Within k) h undecided =
      let q : Query = question_by m f left right in
      bracketed-open f.bound k (numerator q k s) (denominator m.game ^ k) (slice_index band.lower s)
      (slice_index band.upper s) (one-le-pow k (denominator m.game) (denominator-pos m.game game))
      (IsBracketed-opening q k band.lower band.upper (is_query m f left right game)
      (swept-sweep q (opening q) k band how h) s inside) undecided
  opened Next h undecided =
      let q : Query = next_question_of m.game m.owners f in
      bracketed-open f.bound 1 (next_numerator q right s) (denominator m.game) (slice_index band.lower s)
      (slice_index band.upper s) (denominator-pos m.game game)
      (IsBracketed-next q (units_at right) right band.lower band.upper (is_next_query m f game)
      (next-opens m game f right right (exactly right) (exactly right) (exactly-around m right)
      (exactly-around m right) right) (swept-sweep q (units_at right) 1 band how h) s inside) undecided
  opened Always h undecided = always-open h undecided

-- at each of the states where the run looks
pub all-opened : (m : Model) → IsGame m.game → (f : Tree) → IsAtMostOne f.bound
    → (left right : ℕ → Bool) (starts : List ℕ) (asked : ℕ) (band : Band) (how : How)
    → All (λ s. s < states m) starts
    → AreFoundBy f.kind m f (exactly left) (exactly right) starts (ByRounds asked) band how
    → All (λ s. verdict_at f.bound band s ≡ Undecided → IsOpenBy f.kind m f left right asked band s) starts
all-opened m game f small left right starts asked band how inside h =
    λ k d there undecided. opened m game f small left right starts asked band how (get_or starts k d) (inside k d there)
    (λ any. looked-start any starts k d there) f.kind h undecided
