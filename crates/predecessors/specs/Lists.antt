-- Contracts speak of the lists of predecessors in these terms.
use Rattle.std.specs.Prelude.{◌≡◌, ℕ, ◌<◌, ◌≤◌, List, [], ◌∷◌, length, slice_index, slice_index_or, slice_range}
use Rattle.game_model.specs.Game.{Distribution}
use Rattle.predecessors.specs.declared.lists.Move.{Move}
use Rattle.predecessors.specs.Moves.{moves_to}

-- The list of a state has the choices that lead there, in the order of the game, each once for each of its edges that
-- lead there.
pub record ArePredecessors (game : List (List Distribution)) (lists : List (List Move)) : Type 0 where
  pub many : length lists ≡ length game
  pub same : (t : ℕ) → t < length game → slice_index_or lists t [] ≡ moves_to game t

-- The lists end at these places, and the first one begins at b.
abbrev pub lists_from : ℕ → List ℕ → List Move → List (List Move)
lists_from b [] moves = []
lists_from b (e ∷ ends) moves = slice_range moves b e ∷ lists_from e ends moves

-- No list ends before it begins, and none ends past the moves.
pub record AreEnds (ends : List ℕ) (moves : List Move) : Type 0 where
  pub rising : (t : ℕ) → t < length ends → slice_index (0 ∷ ends) t ≤ slice_index ends t
  pub inside : (t : ℕ) → t < length ends → slice_index ends t ≤ length moves
