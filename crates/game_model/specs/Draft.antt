-- This module defines a game that is being built.
use Rattle.std.specs.Prelude.{List, [], ◌∷◌, ◌++◌}
use Rattle.game_model.specs.declared.game.Edge.{Edge}
use Rattle.game_model.specs.Game.{Distribution, total_of}

-- A draft holds the states that have ended, and the choices of the next state that have been added so far.
pub record Draft : Type 0 where
  pub done : List (List Distribution)
  pub under_way : List Distribution

-- This draft is empty.
abbrev pub no_states : Draft
no_states = record { done = []; under_way = [] }

-- This is the choice with these edges.
abbrev pub distribution_of : List Edge → Distribution
distribution_of edges = record { total = total_of edges; edges = edges }

-- This draft has these states, and no choice of the next one.
abbrev pub between : List (List Distribution) → Draft
between done = record { done = done; under_way = [] }

-- One more choice is added to the state that is being built.
abbrev pub with_choice : Draft → Distribution → Draft
with_choice draft distribution = record { done = draft.done; under_way = draft.under_way ++ distribution ∷ [] }

-- The state that is being built ends, and the next one begins.
abbrev pub with_state : Draft → Draft
with_state draft = record { done = draft.done ++ draft.under_way ∷ []; under_way = [] }
