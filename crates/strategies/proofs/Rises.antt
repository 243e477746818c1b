-- What is reached rises with the horizon, and is at most 1.
use Rattle.std.proofs.Common.{◌≡◌, ℕ, zero, suc, ◌+◌, ◌*◌, ◌/◌, ◌^◌, ◌<◌, ◌≤◌, Bool, true, false, List, [], ◌∷◌}
use Rattle.std.proofs.Common.{get_or, arith}
use Rattle.std.specs.List.{range_with_len}
use Rattle.std.specs.Bool.{if◌then◌else◌}
use Rattle.std.proofs.Math.Nat.{pow-suc}
use Rattle.std.proofs.lemmas.List.Sums.{sum_by-le-sum_by}
use Rattle.game_model.specs.declared.game.Side.TheVariants.{Max, Min}
use Rattle.game_model.specs.Game.{Distribution, choice_of}
use Rattle.game_model.specs.Query.{Query, IsQuery, states, is_goal, is_dead, side_at}
use Rattle.game_model.specs.Values.{weighted_sum, denominator}
use Rattle.game_model.proofs.Best.{weighted_sum-le}
use Rattle.game_model.proofs.Rises.{scaled-le, pow-one}
use Rattle.strategies.specs.Strategies.{Turn, Strategy, IsStrategyOf, of_side, reach}
use Rattle.strategies.specs.Plays.{Play, plays, is_won}
use Rattle.strategies.proofs.Sums.{sum-scaled}
use Rattle.strategies.proofs.Turns.{marked-le}
use Rattle.strategies.proofs.Ways.{ways-are}

opens : (goal : Bool) (d x : ℕ) → d * (if goal then 1 else 0) ≤ 1 * (if goal then d ^ 1 else x)
opens true d x = let at : d * 1 ≤ 1 * d ^ 1 = omega (arith, pow-one d) in at
opens false d x = let at : d * 0 ≤ 1 * x = omega arith in at

module _ (q : Query) (faces : ℕ) (greatest least : Strategy) where
  rises : (k : ℕ) (past : List Turn) (s : ℕ) → faces * denominator q.game * reach q faces greatest least k past s
      ≤ 1 * reach q faces greatest least (suc k) past s
  unfolding reach
  rises zero past s = opens (is_goal q s) (faces * denominator q.game) _
  rises (suc k) past s =
      let d : ℕ = faces * denominator q.game in
      marked-le (is_goal q s) (is_dead q s) d 1 (d ^ suc k) (d ^ suc (suc k)) _ _
      (omega (arith, pow-suc d (suc k)))
      (sum-scaled d 1 _ _ (range_with_len 0 faces) (λ throw.
      let c : ℕ = of_side (side_at q s) greatest least past s throw in
      let turn : Turn =
      record { state = s; throw = throw; choice = of_side (side_at q s) greatest least past s throw } in
      let m : Distribution = choice_of q.game s (of_side (side_at q s) greatest least past s throw) in
      scaled-le d 1 (denominator q.game / m.total) (weighted_sum (reach q faces greatest least k (turn ∷ past)) m.edges)
      (weighted_sum (reach q faces greatest least (suc k) (turn ∷ past)) m.edges)
      (weighted_sum-le (reach q faces greatest least k (turn ∷ past))
      (reach q faces greatest least (suc k) (turn ∷ past)) d 1 m.edges
      (λ i e l. rises k (turn ∷ past) (get_or m.edges i e).to))))

  pub reach-rises : (k s : ℕ)
      → reach q faces greatest least k [] s * (faces * denominator q.game) ≤ reach q faces greatest least (k + 1) [] s
  reach-rises k s = let next : k + 1 ≡ suc k = omega arith in
      rw next (omega (arith, rises k [] s))

  won-most : (won : Bool) (ways : ℕ) → (if won then ways else 0) ≤ ways
  won-most true ways = let at : ways ≤ ways = omega arith in at
  won-most false ways = let at : 0 ≤ ways = omega arith in at

  pub reach-within : IsQuery q → IsStrategyOf q Max greatest → IsStrategyOf q Min least → (k s : ℕ) → s < states q
      → reach q faces greatest least k [] s ≤ (faces * denominator q.game) ^ k
  reach-within posed up down k s inside =
      let are = ways-are q posed faces greatest least up down k s inside in
      omega (
        arith,
        are.all,
        are.won,
        sum_by-le-sum_by (λ (play : Play). if is_won q play.through then play.ways else 0) (λ (play : Play). play.ways)
            (plays q faces greatest least k [] s) (λ play. won-most (is_won q play.through) play.ways),
      )
