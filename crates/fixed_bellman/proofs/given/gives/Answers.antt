use Rattle.std.proofs.Common.{ℕ, ◌<◌, arith, inl, inr}
use Rattle.std.specs.Prelude.{slice_index, IsTrue}
use Rattle.std.proofs.lemmas.Bool.{cases_lt}
use Rattle.std.proofs.Math.Nat.{le-div_iff_mul-le}
use Rattle.game_model.specs.Game.{Distribution, choice_among}
use Rattle.game_model.specs.Rounded.{down_value}
use Rattle.game_model.proofs.Rising.{total-pos}
use Rattle.fixed_bellman.proofs.given.gives.Goals as goal

pub returns : goal.returns
returns c =
    let m : Distribution = choice_among c.args.row.now c.args.choice in
    let down : ℕ = down_value (slice_index c.args.table.now) m in
    let positive : 0 < m.total = total-pos m (c.invariant.ensures.distributions c.args.choice c.requires.choice) in
    elim (cases_lt down c.args.value) [
      | inl less ↦
          let below : IsTrue c.down_below.result =
          c.down_below.ensures.1 (omega (arith, less, c.table_quotient.ensures.down)) in (
            λ above. let no : ⊥ = grind (arith, below, above) in absurd no,
            λ enough. absurd (omega (arith, less, (le-div_iff_mul-le positive).1 enough)),
          )
      | inr most ↦ (
        λ _. (le-div_iff_mul-le positive).0 most,
        λ _.
            let above : IsTrue c.down_below.result → ⊥ =
            λ below. omega (arith, most, c.down_below.ensures.0 below, c.table_quotient.ensures.down) in
            grind (arith, above),
      )
    ]
