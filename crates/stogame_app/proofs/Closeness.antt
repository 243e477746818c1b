-- Printed bounds are as near as the completed rounds make them.
use Rattle.std.proofs.Common.{ℕ, ◌+◌, ◌*◌, ◌^◌, ◌≤◌, List, arith, sym, subst}
use Rattle.std.specs.Prelude.{slice_index}
use Rattle.std.proofs.Math.Nat.{mul-le-mul_right}
use Rattle.game_model.specs.Limits.{unit}
use Rattle.game_model.specs.Query.{Query}
use Rattle.game_model.specs.Values.{denominator, numerator}
use Rattle.game_model.specs.Dual.{open_numerator}
use Rattle.game_model.specs.Rounded.{IsBelow}
use Rattle.strategies.specs.Stopping.{AreClose}
use Rattle.formula_reader.specs.Formula.{Tree}
use Rattle.plan_text.specs.declared.plan.Plan.{Plan}
use Rattle.command_words.specs.Words.{Check}
use Rattle.output.specs.declared.status.Status.{Status}
use Rattle.reports.specs.Reports.{IsBracketReport}

higher : (x v w r p : ℕ) → x ≤ (v + r) * p → v ≤ w → x ≤ (w + r) * p
higher x v w r p near above = omega (arith, near, mul-le-mul_right p above)

lower : (u v p x : ℕ) → v * p ≤ x → u ≤ v → u * p ≤ x
lower u v p x near below = omega (arith, near, mul-le-mul_right p below)

module _ (q : Query) (initial : List ℕ) (f : Tree) (check : Check) (text : List ℕ) (status : Status)
    (report : IsBracketReport q initial f check text status) where
  above : IsBelow q (slice_index report.found.base.items) (slice_index report.plan.lower.items)
  above = subst (λ (p : Plan). IsBelow q (slice_index report.found.base.items) (slice_index p.lower.items))
      (sym report.shown.others) report.is_found.lower.above

  pub printed-close : AreClose q report.zero report.found.rounds (slice_index report.plan.lower.items)
      (slice_index report.plan.upper.items)
  printed-close = record {
    below = λ s inside. higher (unit * numerator q report.found.rounds s) (slice_index report.found.base.items s)
        (slice_index report.plan.lower.items s) report.found.rounds (denominator q.game ^ report.found.rounds)
        (report.is_found.bounds.near.narrow.near s inside) (above s inside);
    above = λ s inside. lower (slice_index report.plan.upper.items s) (slice_index report.found.plan.upper.items s)
        (denominator q.game ^ report.found.rounds) (unit * open_numerator q report.zero report.found.rounds s
        + report.found.rounds * denominator q.game ^ report.found.rounds)
        (report.is_found.bounds.near.narrow.near_above s inside) (report.shown.below s inside);
  }
