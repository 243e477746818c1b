use Rattle.std.proofs.Common.{◌≡◌, ℕ, ◌<◌, length, false}
use Rattle.std.specs.Prelude.{slice_index_or}
use Rattle.game_model.specs.Query.{is_goal}
use Rattle.attractors.specs.Search.{IsOrder}
use Rattle.attractors.proofs.search.AttractorSearch.of_goals.Given as goal

abbrev pub invariant-loop-state : goal.invariant-loop-state
invariant-loop-state l = record {
  many : length l.members.items ≡ l.state;
  each : (s : ℕ) → s < l.state → slice_index_or l.members.items s false ≡ is_goal l.question s;
  ordered : IsOrder l.members.items l.order.items;
}
