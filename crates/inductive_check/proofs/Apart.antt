-- The marks of a zero set and the goals are apart.
use Rattle.std.proofs.Common.{◌≡◌, ℕ, ◌≤◌, Bool, true, false, List, length, take, sym, ◌∙◌, ap}
use Rattle.std.specs.Prelude.{slice_index_or}
use Rattle.std.proofs.lemmas.List.{take_all}
use Rattle.game_model.specs.Query.{Query}
use Rattle.game_model.specs.Dual.{IsZeroSet}
use Rattle.game_model.proofs.Marked.{marked-goal}

-- no state is both a goal and a dead state of the swapped question
pub apart-taken : (q : Query) (lost goals deads : List Bool) (n : ℕ) → IsZeroSet q lost → length lost ≤ n
    → length q.goals ≤ n → goals ≡ take n lost → deads ≡ take n q.goals → (s : ℕ) → slice_index_or goals s false ≡ true
    → slice_index_or deads s false ≡ false
apart-taken q lost goals deads n h lost_all goals_all is_goals is_deads s marked =
    let same : goals ≡ lost = is_goals ∙ take_all n lost lost_all in
    let same' : deads ≡ q.goals = is_deads ∙ take_all n q.goals goals_all in
    ap (λ xs. slice_index_or xs s false) same'
    ∙ marked-goal q lost h s (ap (λ xs. slice_index_or xs s false) (sym same) ∙ marked)
