-- Waiting is worth 2 to the minimiser.
use Rattle.std.proofs.Common.{◌≡◌, ℕ, zero, suc, ◌+◌, ◌*◌, ◌^◌, List, [], ◌∷◌}
use Rattle.std.proofs.Common.{arith, refl}
use Rattle.std.proofs.Math.Nat.{pow-suc}
use Rattle.strategies.specs.Strategies.{Turn}
use Rattle.strategies.specs.worked_games.Games.{lingering}
use Rattle.strategies.specs.worked_games.Players.{first_choice}
use Rattle.expected_rewards.specs.Rewards.{expected}
use Rattle.expected_rewards.specs.Paying.{trying_costs, trying}

goal-paid : (k : ℕ) (past : List Turn) → expected lingering trying_costs 1 trying first_choice k past 1 ≡ 0
unfolding expected
goal-paid zero past = refl
goal-paid (suc k) past = refl

tries : (k : ℕ) (past : List Turn) → expected lingering trying_costs 1 trying first_choice k past 0 + 2 ≡ 2 * 2 ^ k
unfolding expected
tries zero past = refl
tries (suc k) past =
    let turn : Turn = record { state = 0; throw = 0; choice = 1 } in
    omega (arith, tries k (turn ∷ past), goal-paid k (turn ∷ past), pow-suc 2 k)

pub tried : (k : ℕ) → expected lingering trying_costs 1 trying first_choice k [] 0 + 2 ≡ 2 * 2 ^ k
tried k = tries k []

stays : (k : ℕ) (past : List Turn) → expected lingering trying_costs 1 first_choice first_choice k past 0 ≡ 0
unfolding expected
stays zero past = refl
stays (suc k) past =
    let turn : Turn = record { state = 0; throw = 0; choice = 0 } in omega (arith, stays k (turn ∷ past))

pub stayed : (k : ℕ) → expected lingering trying_costs 1 first_choice first_choice k [] 0 ≡ 0
stayed k = stays k []
