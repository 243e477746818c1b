-- The answer to a problem with a bound on the steps, from the tables that a sweep gives.
use Rattle.std.proofs.Common.{◌≡◌, ◌<◌, ◌≤◌, ◌*◌, ◌^◌, ℕ, false, List, map, Result, Ok, Err, sym, subst, arith}
use Rattle.std.specs.Prelude.{All, IfOk, slice_index}
use Rattle.std.proofs.lemmas.List.Elements.{All-map, All-weaker}
use Rattle.fractions.proofs.Powers.{pow-pos}
use Rattle.game_model.proofs.Choices.{denominator-pos}
use Rattle.game_model.specs.Limits.{unit}
use Rattle.game_model.specs.Query.{Query, IsQuery, states}
use Rattle.game_model.specs.Values.{denominator}
use Rattle.formula_reader.specs.Formula.{Tree}
use Rattle.formula_reader.specs.declared.formula.Bound.{Bound}
use Rattle.bounded_rounds.specs.Exact.{IsBracketed, exact_from}
use Rattle.bounded_rounds.specs.Steps.{IsSweep, down_from, up_from}
use Rattle.verdicts.specs.Exact.{IsRight}
use Rattle.verdicts.specs.Report.{IsLine, report}
use Rattle.verdicts.specs.Verdict.{verdict_of}
use Rattle.verdicts.specs.declared.report.How.TheVariants.{Steps}
use Rattle.output.specs.Printed.{line_of, status_of}
use Rattle.reports.specs.Sweeps.{IsSweepReport}
use Rattle.output.specs.declared.status.Status.{Status}
use Rattle.reports.proofs.Limits.{at-most, printed-units}

bracketed-same : (margin parts low lower high upper value other : ℕ) → lower ≡ low → upper ≡ high → value ≡ other
    → IsBracketed margin parts low high value → IsBracketed margin parts lower upper other
bracketed-same margin parts low lower high upper value other of_lower of_upper of_value h =
    subst (λ v. IsBracketed margin parts lower upper v) of_value (subst (λ u. IsBracketed margin parts lower u value)
    (sym of_upper) (subst (λ l. IsBracketed margin parts l high value) (sym of_lower) h))

-- the laws of rounded steps, and of verdicts
abbrev pub Brackets : Type 0
Brackets = (q : Query) (table : ℕ → ℕ) (k s : ℕ) → IsQuery q
    → IsBracketed k (denominator q.game ^ k) (down_from q table k s) (up_from q table k s) (exact_from q table k s)

abbrev pub AreRight : Type 0
AreRight = (bound : Bound) (n d lower upper : ℕ) → 1 ≤ d → lower * d ≤ unit * n → unit * n ≤ upper * d
    → IsRight bound n d (verdict_of bound lower upper)

module _ (brackets : Brackets) (are_right : AreRight) (q : Query) (posed : IsQuery q) (steps : ℕ)
    (few : steps ≤ 1000000) (initial : List ℕ) (inside : All (λ s. s < states q) initial) (f : Tree)
    (lower upper : List ℕ) (low_units : All (λ v. v ≤ unit) lower) (high_units : All (λ v. v ≤ unit) upper) where
  some : 1 ≤ denominator q.game ^ steps
  some = pow-pos (denominator q.game) steps (denominator-pos q.game posed.game)

  module _ (table numerators : ℕ → ℕ) (sweep : IsSweep q table steps lower upper)
      (exact : (s : ℕ) → s < states q → exact_from q table steps s ≡ unit * numerators s) where
    line-in_range : (s : ℕ) → s < states q → IsLine (line_of false f.bound (Steps steps) lower upper s)
    line-in_range s within = record {
      state = omega (arith, within, posed.game.few);
      count = omega (arith, few);
      values = printed-units false _ _
          (at-most (λ v. v ≤ unit) lower s low_units (subst (λ n. s < n) (sym sweep.lowers) within))
          (at-most (λ v. v ≤ unit) upper s high_units (subst (λ n. s < n) (sym sweep.uppers) within));
    }

    state-bracketed : (s : ℕ) → s < states q → IsBracketed steps (denominator q.game ^ steps) (slice_index lower s)
        (slice_index upper s) (unit * numerators s)
    state-bracketed s within = bracketed-same steps (denominator q.game ^ steps) _ _ _ _ _ _ (sweep.down s within)
        (sweep.up s within) (exact s within) (brackets q table steps s posed)

    state-right : (s : ℕ) → s < states q → IsRight f.bound (numerators s) (denominator q.game ^ steps)
        (line_of false f.bound (Steps steps) lower upper s).verdict
    state-right s within =
        let around = state-bracketed s within in
        are_right f.bound (numerators s) (denominator q.game ^ steps) (slice_index lower s)
        (slice_index upper s) some around.low around.high

    sweep-reported : (text : List ℕ) (status : Status)
        → text ≡ report (map (line_of false f.bound (Steps steps) lower upper) initial)
        → status ≡ status_of (map (line_of false f.bound (Steps steps) lower upper) initial)
        → IsSweepReport q table steps numerators initial f text status
    sweep-reported text status written ended = record {
      inside = inside;
      lower = lower;
      upper = upper;
      sweep = sweep;
      bracketed = All-weaker (λ s. s < states q) (λ s. IsBracketed steps (denominator q.game ^ steps)
          (slice_index lower s) (slice_index upper s) (unit * numerators s)) state-bracketed initial inside;
      written = written;
      lines = All-map IsLine (line_of false f.bound (Steps steps) lower upper) initial (All-weaker (λ s. s < states q)
          (λ s. IsLine (line_of false f.bound (Steps steps) lower upper s)) line-in_range initial inside);
      ends = ended;
      right = All-weaker (λ s. s < states q) (λ s. IsRight f.bound (numerators s) (denominator q.game ^ steps)
          (line_of false f.bound (Steps steps) lower upper s).verdict) state-right initial inside;
    }

  -- what is said of a sweep is said of any values that are exact
  pub swept : {X E : Type 0} (text : X → List ℕ) (ends : X → Status) (result : Result X E)
      → IfOk result (λ answer. text answer ≡ report (map (line_of false f.bound (Steps steps) lower upper) initial))
      → IfOk result (λ answer. ends answer ≡ status_of (map (line_of false f.bound (Steps steps) lower upper) initial))
      → IfOk result (λ answer. (table numerators : ℕ → ℕ) → IsSweep q table steps lower upper
      → ((s : ℕ) → s < states q → exact_from q table steps s ≡ unit * numerators s)
      → IsSweepReport q table steps numerators initial f (text answer) (ends answer))
  swept text ends (Ok answer) written ended = λ table numerators sweep exact.
      sweep-reported table numerators sweep exact (text answer) (ends answer) written ended
  swept text ends (Err error) written ended = tt
