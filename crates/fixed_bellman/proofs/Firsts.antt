-- One number is the first with a property, and one list has given entries.
use Rattle.std.proofs.Common.{◌≡◌, ℕ, ◌<◌, ◌≤◌, List, arith, sym, ◌∙◌, inl, inr}
use Rattle.std.specs.Prelude.{slice_index}
use Rattle.std.proofs.lemmas.Bool.{cases_order}
use Rattle.std.proofs.lemmas.List.{ext_get_or}
use Rattle.game_model.specs.Query.{Query, states}
use Rattle.game_model.specs.Limits.{unit}
use Rattle.game_model.specs.Tables.{IsTable, IsFirstOver}

pub first-one : (P : ℕ → Type 0) (s t : ℕ) → ¬ P s → ¬ P t → ((r : ℕ) → r < s → P r) → ((r : ℕ) → r < t → P r) → s ≡ t
first-one P s t here there before before' = elim (cases_order s t) [
  | inl same ↦ same
  | inr apart ↦ elim apart [
    | inl less ↦ absurd (here (before' s less))
    | inr more ↦ absurd (there (before t more))
  ]
]

pub over-one : (table : List ℕ) (s t : ℕ) → IsFirstOver table s → IsFirstOver table t → s ≡ t
over-one table s t h k = first-one (λ r. slice_index table r ≤ unit) s t (λ low. omega (arith, low, h.over))
    (λ low. omega (arith, low, k.over)) h.before k.before

pub IsTable-one : (q : Query) (entries : ℕ → ℕ) (table other : List ℕ) → IsTable q entries table
    → IsTable q entries other → table ≡ other
IsTable-one q entries table other h k = ext_get_or 0 table other (h.many ∙ sym k.many)
    (λ s inside. let there : s < states q = omega (arith, inside, h.many) in h.each s there ∙ sym (k.each s there))
