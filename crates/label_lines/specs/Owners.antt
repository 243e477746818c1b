-- Contracts see which player chooses at each state.
use Rattle.std.specs.Prelude.{◌<◌, ℕ, Bool, List, [], length, slice_index, slice_index_or, bytes_eq, All}
use Rattle.std.specs.List.{list_any}

-- An ownership has the players in the order of the header, and for each state the place of its owner among them.
pub record Ownership : Type 0 where
  pub players : List (List ℕ)
  pub owners : List ℕ

-- Every ownership keeps this: each owner is one of the players.
pub record IsOwnership (o : Ownership) : Type 0 where
  pub known : All (λ place. place < length o.players) o.owners

-- One of the players has this name.
abbrev pub is_player : Ownership → List ℕ → Bool
is_player o name = list_any (λ player. bytes_eq name player) o.players

-- This is the name of the player who owns the state.
abbrev pub owner_of : Ownership → ℕ → List ℕ
owner_of o state = slice_index_or o.players (slice_index o.owners state) []
