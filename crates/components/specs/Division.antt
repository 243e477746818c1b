-- This module defines how the states of a question are divided into components.
use Rattle.std.specs.Prelude.{◌≡◌, ℕ, ◌+◌, ◌^◌, ◌<◌, ◌≤◌, List, length, slice_index, slice_range}

-- `component` gives each state the number of its component. `members` lists the states, component after component.
-- `starts` gives the place where each component begins, and last the place where they end. `places` gives the place of
-- each state.
pub record Division : Type 0 where
  pub component : List ℕ
  pub members : List ℕ
  pub starts : List ℕ
  pub places : List ℕ

-- This is the number of divided states.
abbrev pub states_of : Division → ℕ
states_of d = length d.component

-- This is the place of the first state of a component.
abbrev pub begin : Division → ℕ → ℕ
begin d c = slice_index d.starts c

-- This is the place behind the last state of a component.
abbrev pub end : Division → ℕ → ℕ
end d c = slice_index d.starts (c + 1)

-- These are the states of a component.
abbrev pub members_of : Division → ℕ → List ℕ
members_of d c = slice_range d.members (begin d c) (end d c)

-- The place of a state lies in its component and holds this state.
pub record Stands (d : Division) (s : ℕ) : Type 0 where
  pub counted : slice_index d.component s + 1 < length d.starts
  pub from : begin d (slice_index d.component s) ≤ slice_index d.places s
  pub below : slice_index d.places s < end d (slice_index d.component s)
  pub there : slice_index d.members (slice_index d.places s) ≡ s

-- A place of a component holds a state of this component, and it is the place of that state.
pub record IsMember (d : Division) (c place : ℕ) : Type 0 where
  pub state : slice_index d.members place < states_of d
  pub own : slice_index d.component (slice_index d.members place) ≡ c
  pub only : slice_index d.places (slice_index d.members place) ≡ place

-- A component lies in the list of members, and each of its places holds one of its states.
pub record IsComponent (d : Division) (c : ℕ) : Type 0 where
  pub rising : begin d c ≤ end d c
  pub inside : end d c ≤ length d.members
  pub members : (place : ℕ) → begin d c ≤ place → place < end d c → IsMember d c place

-- Each state is in exactly one component, and only once.
pub record IsPartition (d : Division) : Type 0 where
  pub some : 0 < length d.starts
  pub few : length d.starts < 2 ^ 32
  pub places : length d.places ≡ states_of d
  pub states : (s : ℕ) → s < states_of d → Stands d s
  pub components : (c : ℕ) → c + 1 < length d.starts → IsComponent d c
