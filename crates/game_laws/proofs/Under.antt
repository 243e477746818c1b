-- A plan of the Max side reaches at most what the side reaches.
use Rattle.std.proofs.Common.{ℕ, zero, suc, ◌*◌, ◌/◌, ◌^◌, ◌≤◌, true, false, List, length, take, drop, get_or, arith}
use Rattle.std.proofs.Common.{Option}
use Rattle.std.specs.Bool.{if◌then◌else◌}
use Rattle.std.proofs.lemmas.List.Elements.{All-take, All-drop}
use Rattle.game_model.specs.declared.game.Side.{Side}
use Rattle.game_model.specs.declared.game.Side.TheVariants.{Max, Min}
use Rattle.game_model.specs.Game.{Distribution, choices_of}
use Rattle.game_model.specs.Query.{Query, is_goal, is_dead, side_at}
use Rattle.game_model.specs.Values.{optimum, weighted_sum, bellman, denominator, numerator_of, numerator}
use Rattle.game_model.specs.Plans.{numerator_under, planned, planned_place, same_side}
use Rattle.game_model.proofs.Best.{weighted_sum-le, optimum-most, optimum-each}
use Rattle.game_model.proofs.Rises.{bellman-le, scaled-le}

-- one choice alone has at most the greatest value
one-most : (f : Distribution → ℕ) (xs : List Distribution) (i : ℕ)
    → optimum Max f (take 1 (drop i xs)) ≤ optimum Max f xs
one-most f xs i =
    let P : Distribution → Type 0 = λ m. f m ≤ optimum Max f xs in
    optimum-most Max f (optimum Max f xs) (take 1 (drop i xs))
    (All-take P 1 (drop i xs) (All-drop P i xs (optimum-each f xs)))

-- with the plan of the Max side a state has at most what it has without
planned-most : (f : Distribution → ℕ) (xs : List Distribution) (i : ℕ) (side : Side)
    → optimum side f (if same_side side Max then take 1 (drop i xs) else xs) ≤ optimum side f xs
planned-most f xs i Max = one-most f xs i
planned-most f xs i Min = let same : optimum Min f xs ≤ optimum Min f xs = omega arith in same

bellman-planned : (q : Query) (plan : List (Option ℕ)) (top : ℕ) (f : Distribution → ℕ) (s : ℕ)
    → bellman q (planned q Max plan) top f s ≤ bellman q (choices_of q.game) top f s
bellman-planned q plan top f s =
    elim (is_goal q s)
    as (λ goal. (if goal then top else (if is_dead q s then 0 else optimum (side_at q s) f (planned q Max plan s)))
    ≤ (if goal then top else (if is_dead q s then 0 else optimum (side_at q s) f (choices_of q.game s)))) [
      | true ↦ omega arith
      | false ↦ elim (is_dead q s) as (λ dead. (if dead then 0 else optimum (side_at q s) f (planned q Max plan s))
          ≤ (if dead then 0 else optimum (side_at q s) f (choices_of q.game s))) [
            | true ↦ omega arith
            | false ↦ planned-most f (choices_of q.game s)
                (planned_place plan s (length (choices_of q.game s))) (side_at q s)
          ]
    ]

-- a plan of the Max side reaches at most what the side reaches
pub numerator_under-most : (q : Query) (plan : List (Option ℕ)) (k s : ℕ)
    → numerator_under q Max plan k s ≤ numerator q k s
unfolding numerator_of
numerator_under-most q plan zero s = let same : numerator q zero s ≤ numerator q zero s = omega arith in same
numerator_under-most q plan (suc k) s =
    let D : ℕ = denominator q.game in
    let f : Distribution → ℕ = λ m. D / m.total * weighted_sum (numerator_under q Max plan k) m.edges in
    let g : Distribution → ℕ = λ m. D / m.total * weighted_sum (numerator q k) m.edges in
    let tables : 1 * bellman q (planned q Max plan) (D ^ suc k) f s
    ≤ 1 * bellman q (planned q Max plan) (D ^ suc k) g s =
    bellman-le q (planned q Max plan) 1 1 (D ^ suc k) (D ^ suc k) f g s (omega arith)
    (λ i d l.
    let m : Distribution = get_or (planned q Max plan s) i d in
    scaled-le 1 1 (D / m.total) (weighted_sum (numerator_under q Max plan k) m.edges)
    (weighted_sum (numerator q k) m.edges)
    (weighted_sum-le (numerator_under q Max plan k) (numerator q k) 1 1 m.edges
    (λ p e _. omega (arith, numerator_under-most q plan k (get_or m.edges p e).to)))) in
    omega (arith, tables, bellman-planned q plan (D ^ suc k) g s)
