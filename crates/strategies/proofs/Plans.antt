-- A plan against every strategy of the other side.
use Rattle.std.proofs.Common.{◌≡◌, ℕ, zero, suc, ◌+◌, ◌*◌, ◌^◌, ◌<◌, ◌≤◌, List, [], ◌∷◌, length, get_or, take, drop}
use Rattle.std.proofs.Common.{arith, refl, ap, subst, Option}
use Rattle.std.specs.Bool.{if◌then◌else◌}
use Rattle.std.proofs.Math.Nat.{mul-le-mul_left, pow-zero, pow-suc}
use Rattle.game_model.specs.declared.game.Side.{Side}
use Rattle.game_model.specs.declared.game.Side.TheVariants.{Max, Min}
use Rattle.game_model.specs.Game.{Distribution, choices_of, choice_of, no_distribution}
use Rattle.game_model.specs.Limits.{unit}
use Rattle.game_model.specs.Query.{Query, IsQuery, states, side_at}
use Rattle.game_model.specs.Values.{optimum, denominator, numerator, numerator_of}
use Rattle.game_model.specs.Bounds.{IsNear, IsHigh, Reaches}
use Rattle.game_model.specs.Plans.{same_side, planned, planned_place, numerator_under}
use Rattle.game_model.specs.Ranks.{ReachesUnder}
use Rattle.game_model.proofs.Best.{optimum-each, optimum-below}
use Rattle.game_model.proofs.Choices.{planned_place-inside}
use Rattle.strategies.specs.Strategies.{Turn, Strategy, IsStrategyOf, of_side, worth, reach, by_plan, HoldsOver}
use Rattle.strategies.specs.Strategies.{ReachesOver, HoldsAgainstAll, ReachesAgainstAll}
use Rattle.strategies.proofs.Turns.{pow-product}
use Rattle.strategies.proofs.Bounds.{reach-least, reach-most}
use Rattle.strategies.proofs.Best.{best_of, best_of-inside, best-least, best-most}

-- the optimum of one element
optimum-one : (side : Side) (f : Distribution → ℕ) (xs : List Distribution) (i : ℕ) → i < length xs
    → optimum side f (take 1 (drop i xs)) ≡ f (get_or xs i no_distribution)
optimum-one side f [] i l = absurd (omega (arith, l))
optimum-one side f (x ∷ xs) zero l = refl
optimum-one side f (x ∷ xs) (suc i) l = optimum-one side f xs i (omega (arith, l))

pub by_plan-inside : (q : Query) (posed : IsQuery q) (side : Side) (plan : List (Option ℕ))
    → IsStrategyOf q side (by_plan q plan)
by_plan-inside q posed side plan past s throw inside is =
    planned_place-inside plan s (length (choices_of q.game s)) (posed.game.chosen s inside)

module _ (q : Query) (posed : IsQuery q) (plan : List (Option ℕ)) (table : ℕ → ℕ) (past : List Turn) (s throw : ℕ)
    (opponent : Strategy) (inside : s < states q) where
  within : planned_place plan s (length (choices_of q.game s)) < length (choices_of q.game s)
  within = planned_place-inside plan s (length (choices_of q.game s)) (posed.game.chosen s inside)

  planned-least : IsStrategyOf q Min opponent → (side : Side) → side_at q s ≡ side
      → optimum side (worth q table) (if same_side side Max then take 1
      (drop (planned_place plan s (length (choices_of q.game s))) (choices_of q.game s)) else choices_of q.game s)
      ≤ worth q table (choice_of q.game s (of_side side (by_plan q plan) opponent past s throw))
  planned-least down Max is = omega (arith, optimum-one Max (worth q table) (choices_of q.game s) _ within)
  planned-least down Min is = optimum-below (worth q table) (choices_of q.game s)
      (opponent past s throw) no_distribution (down past s throw inside is)

  planned-most : IsStrategyOf q Max opponent → (side : Side) → side_at q s ≡ side
      → worth q table (choice_of q.game s (of_side side opponent (by_plan q plan) past s throw))
      ≤ optimum side (worth q table) (if same_side side Min then take 1
      (drop (planned_place plan s (length (choices_of q.game s))) (choices_of q.game s)) else choices_of q.game s)
  planned-most up Max is = optimum-each (worth q table) (choices_of q.game s) (opponent past s throw) no_distribution
      (up past s throw inside is)
  planned-most up Min is = omega (arith, optimum-one Min (worth q table) (choices_of q.game s) _ within)

module _ (q : Query) (posed : IsQuery q) (plan : List (Option ℕ)) (faces : ℕ) (opponent : Strategy) where
  -- a plan of the maximiser reaches at least its value against every strategy
  pub plan-least : IsStrategyOf q Min opponent → (k : ℕ) (past : List Turn) (s : ℕ) → s < states q
      → faces ^ k * numerator_under q Max plan k s ≤ reach q faces (by_plan q plan) opponent k past s
  plan-least down k past s inside =
      let all : faces ^ k * numerator_under q Max plan k s ≤ 1 * reach q faces (by_plan q plan) opponent k past s =
      reach-least q posed (planned q Max plan) faces (by_plan q plan) opponent (by_plan-inside q posed Max plan) down
      (λ k past. Unit {0}) (λ k past turn fits. tt)
      (λ j before t throw fits within. planned-least q posed plan (numerator_of q (planned q Max plan) j) before t throw
      opponent within down (side_at q t) refl) k past s tt inside in
      omega (arith, all)

  -- a plan of the minimiser holds every strategy to its value
  pub plan-most : IsStrategyOf q Max opponent → (k : ℕ) (past : List Turn) (s : ℕ) → s < states q
      → reach q faces opponent (by_plan q plan) k past s ≤ faces ^ k * numerator_under q Min plan k s
  plan-most up k past s inside =
      let all : 1 * reach q faces opponent (by_plan q plan) k past s ≤ faces ^ k * numerator_under q Min plan k s =
      reach-most q posed (planned q Min plan) faces opponent (by_plan q plan) up (by_plan-inside q posed Min plan)
      (λ k past. Unit {0}) (λ k past turn fits. tt)
      (λ j before t throw fits within. planned-most q posed plan (numerator_of q (planned q Min plan) j) before t throw
      opponent within up (side_at q t) refl) k past s tt inside in
      omega (arith, all)

holds-factors : (top r f n v d : ℕ) → r ≤ f * n → top * n ≤ v * d → top * r ≤ v * (f * d)
holds-factors top r f n v d h k = omega (arith, mul-le-mul_left top h, mul-le-mul_left f k)

-- what is held in the game under a plan is held against every strategy
pub plan-holds : (q : Query) (plan : List (Option ℕ)) (table : ℕ → ℕ) → IsQuery q
    → ((k s : ℕ) → s < states q → unit * numerator_under q Min plan k s ≤ table s * denominator q.game ^ k)
    → HoldsAgainstAll q plan table
plan-holds q plan table posed held faces k s opponent up inside =
    rw (pow-product faces (denominator q.game) k)
    (holds-factors unit (reach q faces opponent (by_plan q plan) k [] s) (faces ^ k) (numerator_under q Min plan k s)
    (table s) (denominator q.game ^ k)
    (plan-most q posed plan faces opponent up k [] s inside) (held k s inside))

attains-factors : (top r f n m v d : ℕ) → f * n ≤ r → m * v * d ≤ top * (m * n + d)
    → m * v * (f * d) ≤ top * (m * r + f * d)
attains-factors top r f n m v d h k = omega (arith, mul-le-mul_left (top * m) h, mul-le-mul_left f k)

-- what is reached in the game under a plan is attained against every strategy
pub plan-reaches : (q : Query) (plan : List (Option ℕ)) (table : ℕ → ℕ) → IsQuery q → ReachesUnder q plan table
    → ReachesAgainstAll q plan table
plan-reaches q plan table posed reached m some =
    let at = reached m some in (
      at.0,
      λ faces s opponent down inside.
          rw (pow-product faces (denominator q.game) at.0)
          (attains-factors unit (reach q faces (by_plan q plan) opponent at.0 [] s) (faces ^ at.0)
          (numerator_under q Max plan at.0 s) m (table s) (denominator q.game ^ at.0)
          (plan-least q posed plan faces opponent down at.0 [] s inside) (at.1 s inside)),
    )

-- 1. Over any number of units that is probability 1: k-step values come near a table that a plan reaches,
-- and none is above one that it holds.
one-power : (k : ℕ) → 1 ^ k ≡ 1
one-power zero = pow-zero 1
one-power (suc k) = rw (pow-suc 1 k, one-power k) refl

alone : (d k : ℕ) → (1 * d) ^ k ≡ d ^ k
alone d k = ap (λ x. x ^ k) (let at : 1 * d ≡ d = omega arith in at)

high-factors : (top r n v d : ℕ) → n ≤ r → top * r ≤ v * d → top * n ≤ v * d
high-factors top r n v d h k = omega (arith, mul-le-mul_left top h, k)

near-factors : (top r n m v d : ℕ) → r ≤ n → m * v * d ≤ top * (m * r + d) → m * v * d ≤ top * (m * n + d)
near-factors top r n m v d h k = omega (arith, mul-le-mul_left (top * m) h, k)

pub over-near : (top : ℕ) (q : Query) (plan : List (Option ℕ)) (table : ℕ → ℕ) → IsQuery q
    → ReachesOver top q plan table → (m : ℕ) → 1 ≤ m → (k : ℕ) × ((s : ℕ) → s < states q
    → m * table s * denominator q.game ^ k ≤ top * (m * numerator q k s + denominator q.game ^ k))
over-near top q plan table posed reached m some =
    let at = reached m some in (
      at.0,
      λ s inside.
          let best : reach q 1 (by_plan q plan) (best_of q Min at.0) at.0 [] s ≤ 1 ^ at.0 * numerator q at.0 s =
          best-most q posed at.0 1 (by_plan q plan) (by_plan-inside q posed Max plan) s inside in
          let there : m * table s * (1 * denominator q.game) ^ at.0
          ≤ top * (m * reach q 1 (by_plan q plan) (best_of q Min at.0) at.0 [] s + (1 * denominator q.game) ^ at.0) =
          at.1 1 s (best_of q Min at.0) (best_of-inside q posed Min at.0) inside in
          near-factors top (reach q 1 (by_plan q plan) (best_of q Min at.0) at.0 [] s) (numerator q at.0 s) m (table s)
          (denominator q.game ^ at.0)
          (omega (arith, best, ap (λ x. x * numerator q at.0 s) (one-power at.0)))
          (subst (λ d. m * table s * d ≤ top * (m * reach q 1 (by_plan q plan) (best_of q Min at.0) at.0 [] s + d))
          (alone (denominator q.game) at.0) there),
    )

pub over-high : (top : ℕ) (q : Query) (plan : List (Option ℕ)) (table : ℕ → ℕ) → IsQuery q → HoldsOver top q plan table
    → (k s : ℕ) → s < states q → top * numerator q k s ≤ table s * denominator q.game ^ k
over-high top q plan table posed held k s inside =
    let best : 1 ^ k * numerator q k s ≤ reach q 1 (best_of q Max k) (by_plan q plan) k [] s =
    best-least q posed k 1 (by_plan q plan) (by_plan-inside q posed Min plan) s inside in
    let there : top * reach q 1 (best_of q Max k) (by_plan q plan) k [] s ≤ table s * (1 * denominator q.game) ^ k =
    held 1 k s (best_of q Max k) (best_of-inside q posed Max k) inside in
    high-factors top (reach q 1 (best_of q Max k) (by_plan q plan) k [] s) (numerator q k s) (table s)
    (denominator q.game ^ k)
    (omega (arith, best, ap (λ x. x * numerator q k s) (one-power k)))
    (subst (λ d. top * reach q 1 (best_of q Max k) (by_plan q plan) k [] s ≤ table s * d)
    (alone (denominator q.game) k) there)

-- 2. In units.
pub against-near : (q : Query) (plan : List (Option ℕ)) (table : ℕ → ℕ) → IsQuery q
    → ReachesAgainstAll q plan table → IsNear q table
against-near q plan table posed reached = over-near unit q plan table posed reached

pub against-high : (q : Query) (plan : List (Option ℕ)) (table : ℕ → ℕ) → IsQuery q
    → HoldsAgainstAll q plan table → IsHigh q table
against-high q plan table posed held = over-high unit q plan table posed held

-- so k-step values reach the entry
pub against-reached : (q : Query) (plan : List (Option ℕ)) (table : ℕ → ℕ) → IsQuery q → ReachesAgainstAll q plan table
    → (s : ℕ) → s < states q → Reaches q (table s) unit s
against-reached q plan table posed reached s inside m some =
    let at = against-near q plan table posed reached m some in
    (at.0, omega (arith, at.1 s inside))
