-- One answer, or two.
use Rattle.std.proofs.Common.{◌≡◌, ◌≢◌, ◌∙◌, ◌≤◌, ℕ, Bool, List, Option, Some, None, get_or, false, refl, sym, subst}
use Rattle.std.proofs.Common.{arith}
use Rattle.std.specs.Prelude.{IfSome}
use Rattle.std.proofs.lemmas.List.Elements.{All-from_get_or}
use Rattle.game_model.specs.Limits.{unit}
use Rattle.game_model.specs.Query.{Query, states}
use Rattle.game_model.specs.Dual.{IsZeroSet}
use Rattle.formula_reader.specs.declared.formula.Bound.{Bound}
use Rattle.bounded_rounds.specs.Steps.{IsSweep}
use Rattle.bracket_engine.specs.declared.bounds.Bracket.{Bracket}
use Rattle.bracket_engine.specs.BracketOfRun.{IsBracketOfRun}
use Rattle.plan_text.specs.declared.plan.Plan.{Plan}
use Rattle.solved_plans.specs.Plans.{IsSolvedPlan}
use Rattle.verdicts.specs.declared.report.How.{How}
use Rattle.verdicts.specs.declared.report.How.TheVariants.{Rounds, Steps, Solved}
use Rattle.formula_truth.specs.declared.way.Way.{Way}
use Rattle.formula_truth.specs.declared.way.Way.TheVariants.{ByRounds, BySolver}
use Rattle.formula_truth.specs.InnerRuns.{AreAnswered, AreSwept, IsAnsweredBy, units_at}
use Rattle.nested_truth.specs.Seen.{IsBand, high_or}

-- 1. One question.

pub by-rounds : (way : Way) (asked : ℕ) → way ≡ ByRounds asked → (q : Query) (bound : Bound) (starts : List ℕ)
    (zero : List Bool) (found : Bracket) → IsZeroSet q zero → IsBracketOfRun q zero bound starts asked found
    → IsAnsweredBy way q bound starts found.plan.lower.items found.plan.upper.items (Rounds found.rounds)
by-rounds way asked is q bound starts zero found is_zero is_found =
    let plan : Plan = found.plan in
    subst (λ (w : Way). IsAnsweredBy w q bound starts plan.lower.items plan.upper.items (Rounds found.rounds))
    (sym is) (record {
      zero = zero;
      is_zero = is_zero;
      found = found;
      is_found = is_found;
      lower_is = refl;
      upper_is = refl;
      rounds = refl;
    })

pub by-solver : (way : Way) → way ≡ BySolver → (q : Query) (bound : Bound) (starts : List ℕ) (plan : Plan)
    → IsSolvedPlan q plan → IsAnsweredBy way q bound starts plan.lower.items plan.upper.items Solved
by-solver way is q bound starts plan is_plan =
    subst (λ (w : Way). IsAnsweredBy w q bound starts plan.lower.items plan.upper.items Solved) (sym is) (record {
      plan = plan;
      is_plan = is_plan;
      lower_is = refl;
      upper_is = refl;
      solved = refl;
    })

pub plan-band : (q : Query) (n : ℕ) (plan : Plan) → states q ≡ n → IsSolvedPlan q plan
    → IsBand n (record { lower = plan.lower.items; upper = plan.upper.items })
plan-band q n plan same is_plan = record {
  lowers = is_plan.lists.lower ∙ same;
  uppers = is_plan.lists.upper ∙ same;
  lower_units = All-from_get_or (λ v. v ≤ unit) plan.lower.items 0
      (λ s within. is_plan.passes.ranked.units s (omega (arith, within, is_plan.lists.lower)));
  upper_units = is_plan.passes.units;
}

-- 2. Two.

module _ (way : Way) (low : Query) (high : Option Query) (bound : Bound) (starts lower upper : List ℕ) (how : How)
    (answer : IsAnsweredBy way low bound starts lower upper how) where
  pub answered-once : high ≡ None → AreAnswered low (high_or low high) bound starts way
      (record { lower = lower; upper = upper }) how
  answered-once is = subst (λ (o : Option Query). AreAnswered low (high_or low o) bound starts way
      (record { lower = lower; upper = upper }) how) (sym is) (record {
        low_upper = upper;
        low_answer = answer;
        high_lower = lower;
        high_how = how;
        high_answer = answer;
        one = λ same. refl;
      })

  pub answered-twice : (question : Query) (other_lower other_upper : List ℕ) (other_how : How) → high ≡ Some question
      → IfSome high (λ q. low ≢ q) → IsAnsweredBy way question bound starts other_lower other_upper other_how
      → AreAnswered low (high_or low high) bound starts way (record { lower = lower; upper = other_upper }) how
  answered-twice question other_lower other_upper other_how is differs second =
      let apart : low ≢ question = subst (λ (o : Option Query). IfSome o (λ q. low ≢ q)) is differs in
      subst (λ (o : Option Query). AreAnswered low (high_or low o) bound starts way
      (record { lower = lower; upper = other_upper }) how) (sym is) (record {
        low_upper = upper;
        low_answer = answer;
        high_lower = other_lower;
        high_how = other_how;
        high_answer = second;
        one = λ same. absurd (apart same);
      })

-- 3. One step from marks, and one from others.

module _ (question posed : Query) (same : question ≡ posed) (sure possible : List Bool) (lower upper : List ℕ)
    (swept : IsSweep question (units_at (λ s. get_or sure s false)) 1 lower upper) where
  pub stepped-once : sure ≡ possible → AreSwept posed posed (units_at (λ s. get_or sure s false))
      (units_at (λ s. get_or possible s false)) 1 (record { lower = lower; upper = upper }) (Steps 1)
  stepped-once is = subst (λ (q : Query). AreSwept q q (units_at (λ s. get_or sure s false))
      (units_at (λ s. get_or possible s false)) 1 (record { lower = lower; upper = upper }) (Steps 1)) same (record {
        low_upper = upper;
        low_swept = swept;
        high_lower = lower;
        high_swept =
            subst (λ (marks : List Bool). IsSweep question (units_at (λ s. get_or marks s false)) 1 lower upper)
            is swept;
        steps_are = refl;
      })

  pub stepped-twice : (other_lower other_upper : List ℕ)
      → IsSweep question (units_at (λ s. get_or possible s false)) 1 other_lower other_upper
      → AreSwept posed posed (units_at (λ s. get_or sure s false)) (units_at (λ s. get_or possible s false)) 1
      (record { lower = lower; upper = other_upper }) (Steps 1)
  stepped-twice other_lower other_upper second =
      subst (λ (q : Query). AreSwept q q (units_at (λ s. get_or sure s false)) (units_at (λ s. get_or possible s false))
      1 (record { lower = lower; upper = other_upper }) (Steps 1)) same (record {
        low_upper = upper;
        low_swept = swept;
        high_lower = other_lower;
        high_swept = second;
        steps_are = refl;
      })
