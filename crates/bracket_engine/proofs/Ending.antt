-- A run does not go on where down steps of both questions settle the threshold.
use Rattle.std.proofs.Common.{◌≡◌, ℕ, ◌+◌, ◌-◌, ◌<◌, true, false, List, length, get_or, arith, ap, sym, subst, inl, inr}
use Rattle.std.proofs.Common.{le_refl}
use Rattle.std.specs.Prelude.{All, count_ones}
use Rattle.std.specs.Int.{is_power_of_two}
use Rattle.std.proofs.lemmas.Bool.{cases_lt, eqb-true}
use Rattle.std.proofs.lemmas.Nat.{ones_le_self}
use Rattle.game_model.specs.Limits.{unit}
use Rattle.game_model.specs.Query.{Query, states}
use Rattle.game_model.specs.Rounded.{down_steps, IsBelow}
use Rattle.formula_reader.specs.declared.formula.Bound.{Bound}
use Rattle.verdicts.specs.Verdict.{is_asking}
use Rattle.verdicts.proofs.Staying.{settled-on}
use Rattle.bracket_engine.specs.Stop.{AreSettledAt, EndsWhereSettled, upper_from}

-- what the unit less the swapped values settles, the lesser of these and of a guess does
pub settled-lesser : (bound : Bound) (initial : List ℕ) (lower swapped_value guess : ℕ → ℕ)
    → AreSettledAt bound initial lower (λ s. unit - swapped_value s)
    → AreSettledAt bound initial lower (upper_from swapped_value guess)
settled-lesser bound initial lower swapped_value guess settled = λ i d within.
    let s : ℕ = get_or initial i d in
    settled-on bound (lower s) (lower s) (unit - swapped_value s) (upper_from swapped_value guess s) (le_refl (lower s))
    (omega arith) (settled i d within)

module _ (q swapped_question : Query) (bound : Bound) (initial : List ℕ) where
  -- no power of two is 0
  pub in_time-first : EndsWhereSettled q swapped_question bound initial 1
  in_time-first threshold r power settled = omega (arith, eqb-true (count_ones r) 1 power, ones_le_self r)

  pub in_time-fewer : (rounds : ℕ) → EndsWhereSettled q swapped_question bound initial (rounds + 1)
      → EndsWhereSettled q swapped_question bound initial rounds
  in_time-fewer rounds h threshold r power settled = omega (arith, h threshold r power settled)

  -- bounds that are nowhere below down steps settle what these do
  module _ (inside : All (λ s. s < states q) initial) (game : swapped_question.game ≡ q.game)
      (rounds : ℕ) (lower swapped_value : ℕ → ℕ) (swept : IsBelow q (down_steps q rounds) lower)
      (swapped_swept : IsBelow swapped_question (down_steps swapped_question rounds) swapped_value) where
    settled-above : AreSettledAt bound initial (down_steps q rounds) (λ s. unit - down_steps swapped_question rounds s)
        → AreSettledAt bound initial lower (λ s. unit - swapped_value s)
    settled-above settled = λ i d within.
        let s : ℕ = get_or initial i d in
        let there : s < states q = inside i d within in
        let swapped_there : s < states swapped_question = subst (λ n. s < n) (sym (ap length game)) there in
        settled-on bound (down_steps q rounds s) (lower s) (unit - down_steps swapped_question rounds s)
        (unit - swapped_value s) (swept s there) (omega (arith, swapped_swept s swapped_there)) (settled i d within)

    pub in_time-more : EndsWhereSettled q swapped_question bound initial rounds → (is_asking bound ≡ false
        → is_power_of_two rounds ≡ true → ¬ AreSettledAt bound initial lower (λ s. unit - swapped_value s))
        → EndsWhereSettled q swapped_question bound initial (rounds + 1)
    in_time-more h is_open threshold r power settled = elim (cases_lt rounds r) [
      | inl more ↦ omega (arith, more)
      | inr few ↦
          let same : r ≡ rounds = omega (arith, few, h threshold r power settled) in
          absurd (is_open threshold (subst (λ n. is_power_of_two n ≡ true) same power) (settled-above (subst (λ n.
          AreSettledAt bound initial (down_steps q n) (λ s. unit - down_steps swapped_question n s)) same settled)))
    ]
