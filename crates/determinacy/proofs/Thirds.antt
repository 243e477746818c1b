-- The values of the game of give and take are 2/3 and 1/3.
use Rattle.std.proofs.Common.{◌≡◌, ℕ, zero, suc, ◌+◌, ◌*◌, ◌^◌, ◌<◌, ◌≤◌, List, [], arith, refl}
use Rattle.std.specs.Prelude.{slice_index}
use Rattle.std.proofs.Math.Nat.{pow-suc, mul-le-mul_left}
use Rattle.game_model.specs.declared.game.Side.TheVariants.{Max, Min}
use Rattle.game_model.specs.Game.{Distribution}
use Rattle.game_model.specs.Values.{numerator_of}
use Rattle.game_model.specs.Plans.{planned}
use Rattle.strategies.specs.Strategies.{reach, by_plan, HoldsOver, ReachesOver}
use Rattle.strategies.proofs.Turns.{pow-product}
use Rattle.strategies.proofs.Plans.{plan-least, plan-most}
use Rattle.determinacy.specs.Exact.{HasValues}
use Rattle.strategies.specs.worked_games.Games.{give_and_take}
use Rattle.determinacy.specs.Thirds.{bold_plan, harsh_plan, thirds}
use Rattle.strategies.proofs.Posed.{is_give}

-- numerators where the maximiser is bold, and where the minimiser is harsh
abbrev by_bold : ℕ → List Distribution
by_bold = planned give_and_take Max bold_plan

abbrev by_harsh : ℕ → List Distribution
by_harsh = planned give_and_take Min harsh_plan

abbrev bold : ℕ → ℕ → ℕ
bold k s = numerator_of give_and_take by_bold k s

abbrev harsh : ℕ → ℕ → ℕ
harsh k s = numerator_of give_and_take by_harsh k s

won : (choices : ℕ → List Distribution) (k : ℕ) → numerator_of give_and_take choices k 2 ≡ 4 ^ k
unfolding numerator_of
won choices zero = refl
won choices (suc k) = refl

lost : (choices : ℕ → List Distribution) (k : ℕ) → numerator_of give_and_take choices k 3 ≡ 0
unfolding numerator_of
lost choices zero = refl
lost choices (suc k) = refl

-- being harsh holds to the thirds
harsh-thirds : (k s : ℕ) → s < 4 → 3 * harsh k s ≤ slice_index thirds s * 4 ^ k
unfolding numerator_of
harsh-thirds zero zero l = omega arith
harsh-thirds (suc k) zero l = omega (arith, harsh-thirds k 1 (omega arith), won by_harsh k, pow-suc 4 k)
harsh-thirds zero (suc zero) l = omega arith
harsh-thirds (suc k) (suc zero) l = omega (arith, harsh-thirds k 0 (omega arith), lost by_harsh k, pow-suc 4 k)
harsh-thirds k (suc (suc zero)) l = omega (arith, won by_harsh k)
harsh-thirds k (suc (suc (suc zero))) l = omega (arith, lost by_harsh k)
harsh-thirds k (suc (suc (suc (suc s)))) l = absurd (omega (arith, l))

-- being bold reaches them, less at most 2/3 of a half to the k
bold-thirds : (k s : ℕ) → s < 4 → slice_index thirds s * 4 ^ k ≤ 3 * bold k s + 2 * 2 ^ k
unfolding numerator_of
bold-thirds zero zero l = omega arith
bold-thirds (suc k) zero l = omega (arith, bold-thirds k 1 (omega arith), won by_bold k, pow-suc 4 k, pow-suc 2 k)
bold-thirds zero (suc zero) l = omega arith
bold-thirds (suc k) (suc zero) l =
    omega (arith, bold-thirds k 0 (omega arith), lost by_bold k, pow-suc 4 k, pow-suc 2 k)
bold-thirds k (suc (suc zero)) l = omega (arith, won by_bold k)
bold-thirds k (suc (suc (suc zero))) l = omega arith
bold-thirds k (suc (suc (suc (suc s)))) l = absurd (omega (arith, l))

pub power-more : (m : ℕ) → m + 1 ≤ 2 ^ m
power-more zero = omega arith
power-more (suc m) = omega (arith, power-more m, pow-suc 2 m)

-- within m steps less at most 1/m
near : (m p v n d : ℕ) → m + 1 ≤ p → d ≡ p * p → v * d ≤ 3 * n + 2 * p → m * v * d ≤ 3 * (m * n + d)
near m p v n d small square most = omega (arith, mul-le-mul_left m most, mul-le-mul_left p small, square)

-- over the faces of a die
least-factors : (r f n m v d : ℕ) → f * n ≤ r → m * v * d ≤ 3 * (m * n + d) → m * v * (f * d) ≤ 3 * (m * r + f * d)
least-factors r f n m v d h k = omega (arith, mul-le-mul_left (3 * m) h, mul-le-mul_left f k)

most-factors : (r f n v d : ℕ) → r ≤ f * n → 3 * n ≤ v * d → 3 * r ≤ v * (f * d)
most-factors r f n v d h k = omega (arith, h, mul-le-mul_left f k)

pub bold-reaches : ReachesOver 3 give_and_take bold_plan (slice_index thirds)
bold-reaches m some = (
  m,
  λ faces s opponent down inside.
      rw (pow-product faces 4 m)
      (least-factors (reach give_and_take faces (by_plan give_and_take bold_plan) opponent m [] s) (faces ^ m)
      (bold m s) m (slice_index thirds s) (4 ^ m)
      (plan-least give_and_take is_give bold_plan faces opponent down m [] s inside)
      (near m (2 ^ m) (slice_index thirds s) (bold m s) (4 ^ m) (power-more m) (pow-product 2 2 m)
      (bold-thirds m s inside))),
)

pub harsh-holds : HoldsOver 3 give_and_take harsh_plan (slice_index thirds)
harsh-holds faces k s opponent up inside =
    rw (pow-product faces 4 k)
    (most-factors (reach give_and_take faces opponent (by_plan give_and_take harsh_plan) k [] s) (faces ^ k) (harsh k s)
    (slice_index thirds s) (4 ^ k)
    (plan-most give_and_take is_give harsh_plan faces opponent up k [] s inside) (harsh-thirds k s inside))

abbrev pub in-thirds : HasValues give_and_take
in-thirds = record {
  top = 3;
  positive = omega arith;
  value = slice_index thirds;
  plan = bold_plan;
  reached = bold-reaches;
  replies = harsh_plan;
  held = harsh-holds;
}
