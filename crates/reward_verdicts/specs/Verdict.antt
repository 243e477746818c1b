-- The bounds of an expected reward, in units of so many places, give a verdict on a threshold. A lower bound without a
-- number is infinite. An upper bound without a number is missing, and there is nothing that it is below.
use Rattle.std.specs.Prelude.{ℕ, ◌*◌, ◌^◌, Bool, true, not, nat_lt, nat_le, Option, Some, None}
use Rattle.fractions.specs.Fraction.{Fraction}
use Rattle.reward_formula.specs.declared.formula.RewardBound.{RewardBound}
use Rattle.reward_formula.specs.declared.formula.RewardBound.TheVariants.{AtLeast, Above, AtMost, Below, AskMax, AskMin}
use Rattle.verdicts.specs.declared.verdict.Verdict.{Verdict}
use Rattle.verdicts.specs.declared.verdict.Verdict.TheVariants.{Bracket}
use Rattle.verdicts.specs.Verdict.{verdict_by}

-- The bound is at least p.
abbrev pub reaches : Fraction → ℕ → Option ℕ → Bool
reaches p places (Some units) = nat_le (p.num * 10 ^ places) (units * p.den)
reaches p places None = true

-- The bound is above p.
abbrev pub exceeds : Fraction → ℕ → Option ℕ → Bool
exceeds p places (Some units) = nat_lt (p.num * 10 ^ places) (units * p.den)
exceeds p places None = true

-- A lower and an upper bound give this verdict for a bound on the value between them.
abbrev pub reward_verdict_of : RewardBound → ℕ → Option ℕ → Option ℕ → Verdict
reward_verdict_of (AtLeast p) places lower upper = verdict_by (reaches p places lower) (not (reaches p places upper))
reward_verdict_of (Above p) places lower upper = verdict_by (exceeds p places lower) (not (exceeds p places upper))
reward_verdict_of (AtMost p) places lower upper = verdict_by (not (exceeds p places upper)) (exceeds p places lower)
reward_verdict_of (Below p) places lower upper = verdict_by (not (reaches p places upper)) (reaches p places lower)
reward_verdict_of AskMax places lower upper = Bracket
reward_verdict_of AskMin places lower upper = Bracket
