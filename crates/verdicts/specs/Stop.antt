-- This module defines the closures that say whether a bound is settled.
use Rattle.std.specs.Prelude.{◌≡◌, ◌≤◌, ℕ, Bool}
use Rattle.std.specs.Fn.{Shared}
use Rattle.game_model.specs.Limits.{unit}
use Rattle.formula_reader.specs.declared.formula.Bound.{Bound}
use Rattle.verdicts.specs.declared.stop.StopRule.{StopRule}
use Rattle.verdicts.specs.Verdict.{verdict_of, is_settling}

-- A closure over two numbers is called like this.
abbrev pub Calls : Type 0 → Type 1
Calls F = Shared F (ℕ × (ℕ × Unit {0})) Bool

-- The closure may be called on all values, and answers true exactly if they settle the bound.
pub record IsRuleOf {F : Type 0} (calls : Calls F) (bound : Bound) (rule : F) : Type 0 where
  pub callable : (lower upper : ℕ) → lower ≤ unit → upper ≤ unit → calls.pre rule (lower, (upper, tt))
  pub answers : (lower upper : ℕ) (answer : Bool) → lower ≤ unit → upper ≤ unit
      → calls.post rule (lower, (upper, tt)) answer
      → answer ≡ is_settling (verdict_of bound lower upper)

-- A rule is about this bound.
abbrev pub bound_of : {F : Type 0} → StopRule F → Bound
bound_of stop = stop.bound

-- The closure of a rule answers for the bound of the rule.
abbrev pub IsStopRule : {F : Type 0} → Calls F → StopRule F → Type 0
IsStopRule calls stop = IsRuleOf calls stop.bound stop.rule
