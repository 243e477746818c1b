-- A set of states grows backward from the goals.
use Rattle.std.specs.Prelude.{◌≡◌, ℕ, ◌<◌, ◌≤◌, Bool, true, false, List, [], length, take, flat_map, count_by}
use Rattle.std.specs.Prelude.{slice_index, slice_index_or, Contains}
use Rattle.game_model.specs.declared.game.Side.TheVariants.{Max, Min}
use Rattle.game_model.specs.Game.{Distribution, choices_of, choice_of}
use Rattle.game_model.specs.Query.{Query, states, side_at}
use Rattle.predecessors.specs.declared.lists.Move.{Move}
use Rattle.predecessors.specs.Moves.{move, LeadsTo}
use Rattle.attractors.specs.Attractor.{ExcludedSets, meets, serves, Grew}

-- The move leads to a member.
pub record LeadsIn (game : List (List Distribution)) (members : List Bool) (m : Move) : Type 0 where
  pub to : ℕ
  pub leads : LeadsTo game m.state m.choice to
  pub member : slice_index_or members to false ≡ true

-- These are all moves that lead to these states.
abbrev pub moves_into : List (List Move) → List ℕ → List Move
moves_into lists states = flat_map (λ u. slice_index_or lists u []) states

-- The order lists each member once.
pub record IsOrder (members : List Bool) (order : List ℕ) : Type 0 where
  pub inside : (k : ℕ) → k < length order → slice_index order k < length members
  pub joined : (k : ℕ) → k < length order → slice_index_or members (slice_index order k) false ≡ true
  pub listed : (s : ℕ) → s < length members → slice_index_or members s false ≡ true → Contains order s
  pub few : length order ≡ count_by (λ b. b) members

-- A state of the minimiser waits for a choice: the choices before it serve, and unless it is excluded it has not been
-- followed.
pub record Awaits (q : Query) (excluded : ExcludedSets) (followed : List Move) (members : List Bool)
    (s choice : ℕ) : Type 0 where
  pub inside : choice < length (choices_of q.game s)
  pub before : (c : ℕ) → c < choice → serves excluded members (choice_of q.game s c) ≡ true
  pub still : excluded.choices (choice_of q.game s choice) ≡ false → ¬ Contains followed (move s choice)

-- This holds of a state that is no member. If it is the maximiser's, each of its choices that was followed is excluded.
-- If it is the minimiser's, it waits for a choice.
pub record IsLeft (q : Query) (excluded : ExcludedSets) (followed : List Move) (members : List Bool)
    (next_choice : List ℕ)
    (s : ℕ) : Type 0 where
  pub greatest : side_at q s ≡ Max → (c : ℕ) → c < length (choices_of q.game s)
      → excluded.choices (choice_of q.game s c) ≡ false → ¬ Contains followed (move s c)
  pub least : side_at q s ≡ Min → Awaits q excluded followed members s (slice_index next_choice s)

-- The set has grown by following these moves to members.
pub record IsAttractorSearch (q : Query) (excluded : ExcludedSets) (followed : List Move) (members : List Bool)
    (next_choice order : List ℕ) : Type 0 where
  pub many : length members ≡ states q
  pub as_many : length next_choice ≡ states q
  pub ordered : IsOrder members order
  pub grew : Grew q excluded members
  -- Each move that was followed leads to a member.
  pub leads : (s c : ℕ) → Contains followed (move s c) → meets members (choice_of q.game s c) ≡ true
  pub left : (s : ℕ) → s < states q → slice_index_or members s false ≡ false → excluded.states s ≡ false
      → IsLeft q excluded followed members next_choice s

-- Each state of the first set is in the second.
abbrev pub IsLarger : List Bool → List Bool → Type 0
IsLarger set more = (s : ℕ) → slice_index_or set s false ≡ true → slice_index_or more s false ≡ true

-- The choices of the state show that the set does not attract it: no choice of the maximiser serves, and the choice
-- that the minimiser waits for does not serve.
pub record IsTested (q : Query) (excluded : ExcludedSets) (set : List Bool) (next_choice : List ℕ)
    (s : ℕ) : Type 0 where
  pub greatest : side_at q s ≡ Max → (c : ℕ) → c < length (choices_of q.game s)
      → serves excluded set (choice_of q.game s c) ≡ false
  pub least : side_at q s ≡ Min → serves excluded set (choice_of q.game s (slice_index next_choice s)) ≡ false

-- Each state that is neither a member nor excluded was tested against an older set.
abbrev pub AreTested : Query → ExcludedSets → List Bool → List Bool → List ℕ → ℕ → Type 0
AreTested q excluded old members next_choice upto = (s : ℕ) → s < upto → slice_index_or members s false ≡ false
    → excluded.states s ≡ false → IsTested q excluded old next_choice s

-- The moves to more members of the order were followed.
pub record IsAdvanced (q : Query) (excluded : ExcludedSets) (lists : List (List Move)) (place next : ℕ)
    (members : List Bool)
    (next_choice order : List ℕ) : Type 0 where
  pub further : place < next
  pub within : next ≤ length order
  pub grown : IsAttractorSearch q excluded (moves_into lists (take next order)) members next_choice order
