-- The tables of the guesses as lists, and whether they are accepted.
use Rattle.std.proofs.Common.{◌≡◌, ℕ, suc, ◌+◌, ◌<◌, ◌≤◌, Bool, List, arith, sym, subst, ◌∙◌, add-one}
use Rattle.std.specs.Prelude.{slice_index}
use Rattle.game_model.specs.Query.{Query, IsQuery, states}
use Rattle.game_model.specs.Rounded.{up_step, IsInductive}
use Rattle.game_model.specs.Tables.{IsTable}
use Rattle.upper_guess.specs.Guess.{first_guess, guess_table, IsRefused}
use Rattle.upper_guess.proofs.Steps.{up_step-same}

-- the first table
pub IsTable-first : (q : Query) (marks : List Bool) (lower : ℕ → ℕ) (e : ℕ) (table : List ℕ)
    → IsTable q (first_guess q marks lower e) table → IsTable q (guess_table q marks lower e 0) table
unfolding guess_table
IsTable-first q marks lower e table h = record { many = h.many; each = h.each; units = h.units }

-- and the next one
pub IsTable-next : (q : Query) (marks : List Bool) (lower : ℕ → ℕ) (e j : ℕ) (table next : List ℕ) → IsQuery q
    → IsTable q (guess_table q marks lower e j) table → IsTable q (up_step q (slice_index table)) next
    → IsTable q (guess_table q marks lower e (j + 1)) next
unfolding guess_table
IsTable-next q marks lower e j table next posed h k = record {
  many = k.many;
  each = λ s inside.
      let step : slice_index next s ≡ guess_table q marks lower e (suc j) s =
      k.each s inside ∙ up_step-same q (slice_index table) (guess_table q marks lower e j) posed h.each s in
      subst (λ (n : ℕ). slice_index next s ≡ guess_table q marks lower e n s) (sym (add-one j)) step;
  units = k.units;
}

-- a table and its up step
module _ (q : Query) (entries : ℕ → ℕ) (table next : List ℕ) (posed : IsQuery q) (h : IsTable q entries table)
    (k : IsTable q (up_step q (slice_index table)) next) where
  pub not-raised : ((s : ℕ) → s < states q → slice_index next s ≤ slice_index table s) → IsInductive q entries
  not-raised below = λ s inside. omega (
    arith,
    below s inside,
    k.each s inside,
    h.each s inside,
    up_step-same q (slice_index table) entries posed h.each s,
  )

  pub is-raised : (s : ℕ) → s < states q → slice_index table s < slice_index next s → IsRefused q entries
  is-raised s inside above = (
    s,
    inside,
    omega (arith, above, k.each s inside, h.each s inside, up_step-same q (slice_index table) entries posed h.each s),
  )

-- an accepted table as a list
pub IsInductive-list : (q : Query) (entries : ℕ → ℕ) (table : List ℕ) → IsQuery q → IsTable q entries table
    → IsInductive q entries → IsInductive q (slice_index table)
IsInductive-list q entries table posed h accepted = λ s inside.
    omega (arith, accepted s inside, h.each s inside, up_step-same q (slice_index table) entries posed h.each s)
