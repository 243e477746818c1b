use Rattle.std.proofs.Common.{ℕ, ◌+◌, ◌<◌, arith, refl, inl, inr}
use Rattle.std.specs.Prelude.{slice_index, IsTrue}
use Rattle.std.proofs.lemmas.Bool.{cases_lt}
use Rattle.std.proofs.Math.Nat.{div-lt_iff_lt-mul, mul-le-mul_right}
use Rattle.game_model.specs.Game.{Distribution, choice_among}
use Rattle.game_model.specs.Values.{weighted_sum}
use Rattle.game_model.specs.Rounded.{up_value}
use Rattle.game_model.proofs.Rising.{total-pos}
use Rattle.fixed_bellman.proofs.Rounds.{up-above}
use Rattle.fixed_bellman.proofs.given.holds.Goals as goal

pub returns : goal.returns
returns c =
    let m : Distribution = choice_among c.args.row.now c.args.choice in
    let sum : ℕ = weighted_sum (slice_index c.args.table.now) m.edges in
    let up : ℕ = up_value (slice_index c.args.table.now) m in
    let positive : 0 < m.total = total-pos m (c.invariant.ensures.distributions c.args.choice c.requires.choice) in
    elim (cases_lt c.args.value up) [
      | inl less ↦
          let above : IsTrue c.up_above.result =
          c.up_above.ensures.1 (omega (arith, less, c.table_quotient.ensures.up)) in (
            λ held. let no : ⊥ = grind (arith, above, held) in absurd no,
            λ held.
                let below : up < c.args.value + 1 = (div-lt_iff_lt-mul positive).1 (omega (arith, held)) in
                absurd (omega (arith, less, below)),
          )
      | inr most ↦ (
        λ _. omega (arith, up-above sum m.total up positive refl, mul-le-mul_right m.total most),
        λ _.
            let no : IsTrue c.up_above.result → ⊥ =
            λ above. omega (arith, most, c.up_above.ensures.0 above, c.table_quotient.ensures.up) in
            grind (arith, no),
      )
    ]
