-- What is so of every set that grew from the goals.
use Rattle.std.proofs.Common.{◌≡◌, ℕ, ◌<◌, Bool, true, false, List, length, arith, ◌∙◌}
use Rattle.std.specs.Prelude.{slice_index_or}
use Rattle.std.proofs.lemmas.List.{length-set}
use Rattle.game_model.specs.Query.{Query, states, is_goal}
use Rattle.attractors.specs.Attractor.{ExcludedSets, Grew, from_goals, with_state}
use Rattle.attractors.proofs.Ordering.{stays-member}

pub Grew-many : (q : Query) (excluded : ExcludedSets) (members : List Bool) → Grew q excluded members
    → length members ≡ states q
Grew-many q excluded _ (from_goals members goals) = goals.many
Grew-many q excluded _ (with_state members s grew inside within drawn) =
    length-set members s true ∙ Grew-many q excluded members grew

pub Grew-goals : (q : Query) (excluded : ExcludedSets) (members : List Bool) → Grew q excluded members → (s : ℕ)
    → s < states q
    → is_goal q s ≡ true → slice_index_or members s false ≡ true
Grew-goals q excluded _ (from_goals members goals) s inside goal = goals.each s inside ∙ goal
Grew-goals q excluded _ (with_state members t grew within_states within drawn) s inside goal =
    stays-member members t s (omega (arith, within_states, Grew-many q excluded members grew))
    (Grew-goals q excluded members grew s inside goal)
