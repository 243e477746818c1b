-- This module defines strategies, most of them for the game of give and take, where the players move by turns. In the
-- past the last turn comes first, and the turn before it comes next.
use Rattle.std.specs.Prelude.{zero, suc, ◌-◌, [], ◌∷◌, min}
use Rattle.strategies.specs.Strategies.{Strategy}

-- This strategy always takes the first choice. In the game of give and take the maximiser is bold, and the minimiser is
-- mild.
abbrev pub first_choice : Strategy
first_choice past s throw = 0

-- The minimiser is always harsh.
abbrev pub harsh : Strategy
harsh past s throw = 1

-- With memory, the maximiser is careful the first time, then bold, then careful, and so on.
abbrev pub alternating : Strategy
alternating past (suc s) throw = 0
alternating [] zero throw = 1
alternating (reply ∷ []) zero throw = 1
alternating (reply ∷ turn ∷ past) zero throw = 1 - turn.choice

-- With memory, the minimiser answers what the maximiser did last: a bold choice mildly, and a careful one harshly.
abbrev pub answering : Strategy
answering [] s throw = 0
answering (turn ∷ past) s throw = min turn.choice 1

-- With memory and a die, at the first turn of the play the maximiser is bold if the die shows 0, else careful. Later it
-- is bold.
abbrev pub tossing : Strategy
tossing (turn ∷ past) s throw = 0
tossing [] (suc s) throw = 0
tossing [] zero throw = min throw 1
