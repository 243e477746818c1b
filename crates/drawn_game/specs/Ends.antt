-- This module defines where a choice leads.
use Rattle.std.specs.Prelude.{ℕ, Contains, ◌⊎◌}
use Rattle.game_model.specs.Game.{Distribution, destinations}
use Rattle.drawn_game.specs.Rules.{goal_of, sink_of}

-- One of the edges of the choice leads to this state.
abbrev pub LeadsTo : Distribution → ℕ → Type 0
LeadsTo choice to = Contains (destinations choice.edges) to

-- In a game of n states the choice leads to the goal or the sink.
abbrev pub LeadsToEnd : ℕ → Distribution → Type 0
LeadsToEnd n choice = LeadsTo choice (goal_of n) ⊎ LeadsTo choice (sink_of n)
