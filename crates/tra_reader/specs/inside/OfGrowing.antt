-- These definitions say what contracts see of a game under way.
use Rattle.tra_reader.specs.declared.game_in_order.GameInOrder.TheInside.{Inside}
use Rattle.tra_reader.specs.inside.GrowingGames.{Growing, HoldsSome}

-- A contract sees the number of states, the finished choices, and the parts of the choice under way.
abbrev pub growing_of : Inside → Growing
growing_of g = record { states = g.states; finished = g.finished; parts = g.parts.items }

-- The game holds a list of transitions, which may be empty.
abbrev pub IsGrowing : Inside → Type 0
IsGrowing g = HoldsSome (growing_of g)
