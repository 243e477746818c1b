use Rattle.std.proofs.Common.{◌≡◌, ℕ, zero, suc, ◌*◌, ◌^◌, ◌≤◌, List, [], ◌∷◌, arith, refl}
use Rattle.std.proofs.Math.Nat.{pow-suc}
use Rattle.strategies.specs.Strategies.{Turn, reach}
use Rattle.strategies.specs.worked_games.Games.{give_and_take}
use Rattle.strategies.specs.worked_games.Players.{harsh, tossing}
use Rattle.strategies.proofs.worked_games.players.memory_and_dice_reach_less.Goals as goal

-- what is reached within k turns
abbrev reached : ℕ → List Turn → ℕ → ℕ
reached k past s = reach give_and_take 2 tossing harsh k past s

abbrev turn : ℕ → ℕ → ℕ → Turn
turn s throw choice = record { state = s; throw = throw; choice = choice }

-- after the first turn at most the values
later : (k : ℕ) (last : Turn) (past : List Turn) → (3 * reached k (last ∷ past) 0 ≤ 2 * 8 ^ k)
    × (3 * reached k (last ∷ past) 1 ≤ 8 ^ k) × (reached k (last ∷ past) 2 ≡ 8 ^ k) × (reached k (last ∷ past) 3 ≡ 0)
unfolding reach
later zero last past = (omega arith, omega arith, refl, refl)
later (suc k) last past = (
  omega (arith, later k (turn 0 0 0) (last ∷ past), later k (turn 0 1 0) (last ∷ past), pow-suc 8 k),
  omega (arith, later k (turn 1 0 1) (last ∷ past), later k (turn 1 1 1) (last ∷ past), pow-suc 8 k),
  refl,
  refl,
)

pub returns : goal.returns
unfolding reach
returns c = at
  where
    at : (k : ℕ) → 2 * reached k [] 0 ≤ 8 ^ k
    at zero = omega arith
    at (suc k) = omega (arith, later k (turn 0 0 0) [], later k (turn 0 1 1) [], pow-suc 8 k)
