-- Contracts see how many nodes, choices and edges games, chains and drafts have, and where edges lead.
use Rattle.std.specs.Prelude.{ℕ, Bool, true, false, List, Option, ◌&&◌, ◌+◌, ◌-◌, min, vec_len}
use Rattle.std.specs.Prelude.{slice_get, slice_index, slice_index_or, slice_range}
use Rattle.float_games.specs.Owners.{is_among}
use Rattle.float_games.specs.declared.game.TheConstants.{NO_MARK}
use Rattle.float_games.specs.declared.game.FloatGame.{FloatGame}
use Rattle.float_games.specs.declared.chain.Chain.{Chain}
use Rattle.float_games.specs.declared.draft.Draft.{Draft}
use Rattle.std.specs.Float.{Float}

-- A game has this many nodes.
abbrev pub nodes_of : FloatGame → ℕ
nodes_of g = vec_len g.maximises

-- A game has this many choices.
abbrev pub choices_of : FloatGame → ℕ
choices_of g = vec_len g.gives

-- A game has this many edges.
abbrev pub edges_of : FloatGame → ℕ
edges_of g = vec_len g.to

-- A choice has a mark. It is `NO_MARK` if the choice is none of the game.
abbrev pub mark_of : FloatGame → ℕ → ℕ
mark_of g choice = slice_index_or g.marks.items choice NO_MARK

-- The owner of a node is true for the maximiser. A node that is none of the game has no owner.
abbrev pub owner_of : FloatGame → ℕ → Option Bool
owner_of g node = slice_get g.maximises.items node

-- Both sides own nodes of the game.
abbrev pub has_both : FloatGame → Bool
has_both g = is_among true g.maximises.items && is_among false g.maximises.items

-- A chain has this many nodes.
abbrev pub nodes_in : Chain → ℕ
nodes_in c = nodes_of c.game.now

-- A node of a chain has one choice: an entry of the policy that is no choice counts as the last one.
abbrev pub choice_in : Chain → ℕ → ℕ
choice_in c node = min (slice_index c.policy.now node) (choices_of c.game.now - 1)

-- A list over edges has these entries at the edges of a node.
abbrev pub at_edges_of : {X : Type 0} → Chain → ℕ → List X → List X
at_edges_of c node list =
    let choice = choice_in c node in
    let starts = c.game.now.edge_starts.items in
    slice_range list (slice_index starts choice) (slice_index starts (choice + 1))

-- Each edge of a node leads to a successor.
abbrev pub successors_in : Chain → ℕ → List ℕ
successors_in c node = at_edges_of c node c.game.now.to.items

-- Each edge of a node has a share.
abbrev pub shares_in : Chain → ℕ → List Float
shares_in c node = at_edges_of c node c.game.now.share.items

-- This many nodes of a draft have ended.
abbrev pub ended_nodes : Draft → ℕ
ended_nodes d = vec_len d.lists.maximises

-- This many choices of a draft have ended.
abbrev pub ended_choices : Draft → ℕ
ended_choices d = vec_len d.lists.gives
