use Rattle.std.proofs.Common.{◌≡◌, ℕ, zero, suc, ◌+◌, ◌*◌, ◌^◌, ◌<◌, ◌≤◌, [], arith, refl}
use Rattle.std.proofs.Math.Nat.{pow-suc, mul-le-mul_left}
use Rattle.game_model.specs.Bounds.{Reaches, Exceeds}
use Rattle.game_model.specs.Limits.{unit}
use Rattle.game_model.specs.Values.{numerator, numerator_of}
use Rattle.strategies.specs.worked_games.Games.{lingering}
use Rattle.strategies.proofs.Lingering.{never}
use Rattle.strategies.proofs.Posed.{is_lingering}
use Rattle.determinacy.proofs.Thirds.{power-more}
use Rattle.determinacy.proofs.worked_games.no_horizon_reaches_the_value.Goals as goal

won : (k : ℕ) → numerator lingering k 1 ≡ 2 ^ k
unfolding numerator_of
won zero = refl
won (suc k) = refl

less : (k : ℕ) → numerator lingering k 0 + 1 ≡ 2 ^ k
unfolding numerator_of
less zero = refl
less (suc k) = omega (arith, less k, won k, pow-suc 2 k, power-more k)

near-one : (u m p n : ℕ) → m + 1 ≤ p → p ≤ n + 1 → m * u * p ≤ u * (m * n + p)
near-one u m p n small most = omega (arith, mul-le-mul_left (u * m) most, mul-le-mul_left u small)

near : (u m s : ℕ) → s < 2 → m * u * 2 ^ m ≤ u * (m * numerator lingering m s + 2 ^ m)
near u m zero l = near-one u m (2 ^ m) (numerator lingering m 0) (power-more m) (omega (arith, less m))
near u m (suc zero) l = near-one u m (2 ^ m) (numerator lingering m 1) (power-more m) (omega (arith, won m))
near u m (suc (suc s)) l = absurd (omega (arith, l))

reached : Reaches lingering 1 1 0
reached m some = (m, omega (arith, near 1 m 0 (omega arith)))

pub returns : goal.returns
returns c = record {
  never = λ k. never k [];
  all = refl;
  less = less;
  near = λ m some. (m, near unit m);
  reached = reached;
  value = λ v.
      let least : 1 * v.top ≤ 1 * v.value 0 =
      (c.values_decide_thresholds.ensures.reached lingering v 1 1 0 is_lingering (omega arith)).0 reached in
      let none : Exceeds lingering 1 1 0 → ⊥ = λ at. omega (arith, at.1, less at.0) in
      let most : 1 * v.top < 1 * v.value 0 → ⊥ = λ more.
      none ((c.values_decide_thresholds.ensures.exceeded lingering v 1 1 0 is_lingering (omega arith)).1 more) in
      omega (arith, least, most);
}
