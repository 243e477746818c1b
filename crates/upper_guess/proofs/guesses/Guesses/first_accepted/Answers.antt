use Rattle.std.proofs.Common.{ℕ, ◌+◌, ◌<◌, ◌≤◌, arith, le_refl, ◌∙◌}
use borrow.Author.Count.{below_more}
use Rattle.std.specs.Prelude.{slice_index, slice_set, List, IfSome, Option, Some, None}
use Rattle.std.specs.Global.{Vec}
use Rattle.std.proofs.Math.ListN.{length-set}
use Rattle.std.proofs.lemmas.List.Elements.{All-set}
use Rattle.game_model.specs.Query.{Query, states}
use Rattle.game_model.specs.Rounded.{up_step, IsBelow}
use Rattle.game_model.specs.Tables.{IsTable}
use Rattle.upper_guess.specs.declared.guesses.Guesses.{Guesses}
use Rattle.upper_guess.specs.Guess.{RisesMost, AreWitnesses}
use Rattle.upper_guess.specs.inside.OfGuesses.{entry_of, IsTableOf, IsRefusedOf}
use Rattle.upper_guess.proofs.Lists.{IsTable-next, not-raised, is-raised}
use Rattle.upper_guess.proofs.guesses.Guesses.first_accepted.Goals as goal

-- a table that was made before one step was made before the next
made-later : (g : Guesses) (steps : ℕ) (made : Option (Vec ℕ × ℕ))
    → IfSome made (λ m. IsTableOf g m.1 m.0.items × (m.1 ≤ steps))
    → IfSome made (λ m. IsTableOf g m.1 m.0.items × (m.1 ≤ steps + 1))
made-later g steps None h = h
made-later g steps (Some m) h = (h.0, omega (arith, h.1))

-- a witness is replaced
witnesses-set : (q : Query) (witnesses : List ℕ) (i s : ℕ) → AreWitnesses q witnesses → s < states q
    → AreWitnesses q (slice_set witnesses i s)
witnesses-set q witnesses i s h inside = record {
  many = length-set witnesses i s ∙ h.many;
  inside = All-set (λ s. s < states q) witnesses i s inside h.inside;
}

pub loop-steps-preserved-in-Some : goal.loop-steps-preserved-in-Some
loop-steps-preserved-in-Some t c =
    let g = c.args.self.now in
    let h = c.loop-steps.invariant in record {
      made = made-later g c.loop-steps.steps c.loop-steps.made h.made;
      witnesses = witnesses-set g.question.now c.loop-steps.witnesses.states c.loop-steps.steps c.in-Some.state
          h.witnesses c.in-Some.ensures.inside;
      refused = below_more (IsRefusedOf g) c.loop-steps.steps h.refused c.in-Some.ensures.refused;
    }

pub returns-in_default-most_raised-clause-found : goal.returns-in_default-most_raised-clause-found
returns-in_default-most_raised-clause-found t c =
    let g = c.args.self.now in
    let q = g.question.now in
    let table = c.in_ok-table.table.items in
    let next = c.in_ok-next.next.items in
    let step : IsTable q (up_step q (slice_index table)) next = rw c.deref.ensures.value at c.in_ok-next.ensures in
    let below : IsBelow q (slice_index next) (slice_index table) =
    rw (c.deref-in-loop-steps.ensures.value, c.deref-in-loop-steps-2.ensures.value) at
    c.in_default-most_raised.ensures in
    record {
      steps = c.loop-steps.steps;
      few = omega (arith, c.loop-steps-test.true);
      entries = c.in_ok-table.ensures;
      accepted = not-raised q (entry_of g c.loop-steps.steps) table next g.posed c.in_ok-table.ensures step below;
      refused = c.loop-steps.invariant.refused;
    }

pub loop-steps-preserved : goal.loop-steps-preserved
loop-steps-preserved t c =
    let g = c.args.self.now in
    let q = g.question.now in
    let steps : ℕ = c.loop-steps.steps in
    let s : ℕ = c.in-Some-most_raised.state in
    let table = c.in_ok-table.table.items in
    let next = c.in_ok-next.next.items in
    let step : IsTable q (up_step q (slice_index table)) next = rw c.deref.ensures.value at c.in_ok-next.ensures in
    let raised : RisesMost q (slice_index table) (slice_index next) s =
    rw (c.deref-in-loop-steps.ensures.value, c.deref-in-loop-steps-2.ensures.value) at c.in-Some-most_raised.ensures in
    record {
      made = (IsTable-next q _ _ _ steps table next g.posed c.in_ok-table.ensures step, le_refl _);
      witnesses = witnesses-set q c.loop-steps.witnesses.states steps s c.loop-steps.invariant.witnesses raised.inside;
      refused = below_more (IsRefusedOf g) steps c.loop-steps.invariant.refused
          (is-raised q (entry_of g steps) table next g.posed c.in_ok-table.ensures step s raised.inside raised.rises);
    }

pub returns-clause-found : goal.returns-clause-found
returns-clause-found t c j few = c.loop-steps.invariant.refused j (omega (arith, few, c.loop-steps-test.false))
