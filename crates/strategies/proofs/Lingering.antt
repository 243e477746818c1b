-- A maximiser that stays at state 0 of the lingering game never comes to the goal.
use Rattle.std.proofs.Common.{◌≡◌, ℕ, zero, suc, List, ◌∷◌, arith, refl}
use Rattle.strategies.specs.Strategies.{Turn, reach}
use Rattle.strategies.specs.worked_games.Games.{lingering}
use Rattle.strategies.specs.worked_games.Players.{first_choice}

pub never : (k : ℕ) (past : List Turn) → reach lingering 1 first_choice first_choice k past 0 ≡ 0
unfolding reach
never zero past = refl
never (suc k) past = omega (arith, never k (record { state = 0; throw = 0; choice = 0 } ∷ past))
