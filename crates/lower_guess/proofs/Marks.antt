-- Marks on the predecessors of what fell.
use Rattle.std.proofs.Common.{◌≡◌, ℕ, ◌≤◌, Bool, true, false, List, arith, sym, ◌∙◌, inl, inr}
use Rattle.std.specs.Prelude.{slice_index}
use Rattle.std.proofs.Math.Nat.{min-le_right}
use Rattle.std.proofs.lemmas.Bool.{cases_lt}
use Rattle.game_model.specs.Query.{Query, IsQuery}
use Rattle.game_model.specs.Rounded.{down_step}
use Rattle.game_model.specs.Tables.{IsTable}
use Rattle.lower_guess.specs.LowerGuess.{lesser_step}
use Rattle.lower_guess.specs.inside.Marks.{AreQuiet, AreMarkedFor}
use Rattle.predecessors.proofs.Successors.{step-of-successors}

-- where the predecessors of what fell are marked, the others do not fall in the next step
pub quiet-next : (q : Query) (table next : List ℕ) (marks : List Bool)
    → IsQuery q → IsTable q (lesser_step q (slice_index table)) next
    → AreMarkedFor q.game (slice_index table) (slice_index next) marks → AreQuiet q marks (slice_index next)
quiet-next q table next marks posed step marked s inside off =
    let v : ℕ → ℕ = slice_index table in
    let later : down_step q v s ≤ down_step q (slice_index next) s =
    step-of-successors q v (slice_index next) s posed inside
    (λ c t within leads. elim (cases_lt (slice_index next t) (slice_index table t)) [
      | inl fell ↦ absurd (let clash : true ≡ false = sym (marked s c t within fell leads) ∙ off in cc)
      | inr kept ↦ kept
    ]) in
    omega (arith, later, step.each s inside, min-le_right (slice_index table s) (down_step q v s))
