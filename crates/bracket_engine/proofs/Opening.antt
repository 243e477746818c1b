-- What bounds leave undecided between those of a bracket is left open.
use Rattle.std.proofs.Common.{◌≡◌, ℕ, ◌+◌, ◌-◌, ◌*◌, ◌^◌, ◌<◌, ◌≤◌, Bool, true, false, List, arith, ap, inl, inr}
use Rattle.std.specs.Prelude.{◌⊎◌}
use Rattle.std.proofs.Math.Nat.{mul-le-mul_right, one-le-pow}
use Rattle.game_model.specs.Limits.{unit}
use Rattle.game_model.specs.Query.{Query, IsQuery, states}
use Rattle.game_model.specs.Values.{denominator, numerator}
use Rattle.game_model.specs.Rounded.{down_steps}
use Rattle.game_model.specs.Dual.{open_numerator, swapped}
use Rattle.game_model.proofs.Choices.{denominator-pos}
use Rattle.formula_reader.specs.declared.formula.Bound.{Bound}
use Rattle.verdicts.specs.declared.verdict.Verdict.TheVariants.{Undecided}
use Rattle.verdicts.specs.Open.{IsLeftOpen}
use Rattle.verdicts.specs.Verdict.{verdict_of, is_settling}
use Rattle.verdicts.proofs.Opening.{open-here, open-wider}
use Rattle.verdicts.proofs.Staying.{settled-on}
use Rattle.bracket_engine.specs.Bracket.{IsNarrow}

near-over : (v w r p x : ℕ) → x ≤ (v + r) * p → v ≤ w → x ≤ (w + r) * p
near-over v w r p x near above = omega (arith, near, mul-le-mul_right p above)

near-under : (u v p x : ℕ) → v * p ≤ x → u ≤ v → u * p ≤ x
near-under u v p x near below = omega (arith, near, mul-le-mul_right p below)

module _ (q : Query) (posed : IsQuery q) (zero : List Bool) (bound : Bound) (asked : ℕ)
    (base high lower upper : ℕ → ℕ) (s : ℕ) (inside : s < states q) (above : base s ≤ lower s)
    (below : upper s ≤ high s) (undecided : verdict_of bound (lower s) (upper s) ≡ Undecided) where
  narrow-open : IsNarrow q zero asked base high → IsLeftOpen q zero bound asked lower upper s
  narrow-open narrow =
      let power : ℕ = denominator q.game ^ asked in
      let printed = open-here bound (lower s) (upper s) undecided in
      record {
        printed = printed;
        swept = open-wider bound (lower s) (upper s) (down_steps q asked s)
            (unit - down_steps (swapped q zero) asked s) 1 0 (omega arith)
            (omega (arith, narrow.swept s inside, above)) (omega (arith, narrow.swept_above s inside, below)) printed;
        near = open-wider bound (lower s) (upper s) (unit * numerator q asked s) (unit * open_numerator q zero asked s)
            power asked (one-le-pow asked (denominator q.game) (denominator-pos q.game posed.game))
            (near-over (base s) (lower s) asked power (unit * numerator q asked s) (narrow.near s inside) above)
            (near-under (upper s) (high s) power _ (narrow.near_above s inside) below) printed;
      }

  -- bounds of the bracket that settle the threshold would decide it
  pub left-open : (is_settling (verdict_of bound (base s) (high s)) ≡ true) ⊎ IsNarrow q zero asked base high
      → IsLeftOpen q zero bound asked lower upper s
  left-open (inl settled) =
      let yes : is_settling (verdict_of bound (lower s) (upper s)) ≡ true =
      settled-on bound (base s) (lower s) (high s) (upper s) above below settled in
      let no : is_settling (verdict_of bound (lower s) (upper s)) ≡ false = ap is_settling undecided in
      absurd (cc (yes, no))
  left-open (inr narrow) = narrow-open narrow
