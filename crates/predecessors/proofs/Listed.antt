-- What stands in a list of predecessors.
use Rattle.std.proofs.Common.{ℕ, ◌<◌, List, [], length, sym, subst, slice_index_or}
use Rattle.std.specs.Prelude.{◌↔◌, Contains}
use Rattle.game_model.specs.Game.{Distribution}
use Rattle.predecessors.specs.declared.lists.Move.{Move}
use Rattle.predecessors.specs.Moves.{move, LeadsTo}
use Rattle.predecessors.specs.Lists.{ArePredecessors}
use Rattle.predecessors.proofs.Moves.{moves_to-lead, Contains-moves_to}

-- a choice stands in the list of a state exactly where it leads there
pub listed-exactly : {game : List (List Distribution)} {lists : List (List Move)} → ArePredecessors game lists
    → (s c t : ℕ) → t < length game → Contains (slice_index_or lists t []) (move s c) ↔ LeadsTo game s c t
listed-exactly {game} {lists} are s c t inside = (
  λ listed. moves_to-lead game s c t (subst (λ (l : List Move). Contains l (move s c)) (are.same t inside) listed),
  λ leads. subst (λ (l : List Move). Contains l (move s c)) (sym (are.same t inside))
      (Contains-moves_to game s c t leads),
)
