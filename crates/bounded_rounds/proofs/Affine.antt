-- One step from values that are tied by an inequality with a remainder.
use Rattle.std.proofs.Common.{ℕ, ◌+◌, ◌*◌, ◌≤◌, true, false, List, arith}
use Rattle.std.specs.List.{All}
use Rattle.std.specs.Bool.{if◌then◌else◌}
use Rattle.game_model.specs.declared.game.Side.{Side}
use Rattle.game_model.specs.Game.{Distribution}
use Rattle.game_model.specs.Query.{Query, is_goal, is_dead, side_at}
use Rattle.game_model.specs.Values.{optimum, bellman}
use Rattle.game_model.proofs.Best.{optimum-le, optimum-plus}

-- the optimum of values that are tied like this
pub optimum-affine : {X : Type 0} (side : Side) (f g : X → ℕ) (a b c : ℕ) (xs : List X)
    → All (λ y. a * f y ≤ b * g y + c) xs → a * optimum side f xs ≤ b * optimum side g xs + c
optimum-affine side f g a b c xs each =
    let raised : a * optimum side f xs ≤ 1 * optimum side (λ y. b * g y + c) xs =
    optimum-le side f (λ y. b * g y + c) a 1 xs
    (λ i d l. omega (arith, each i d l)) in
    let scaled : 1 * optimum side (λ y. b * g y) xs ≤ b * optimum side g xs =
    optimum-le side (λ y. b * g y) g 1 b xs (λ i d l. omega arith) in
    omega (arith, raised, scaled, optimum-plus side (λ y. b * g y) c xs)

-- one step from such values
pub bellman-affine : (q : Query) (choices : ℕ → List Distribution) (a b c top top' : ℕ) (f g : Distribution → ℕ) (s : ℕ)
    → a * top ≤ b * top' + c → All (λ m. a * f m ≤ b * g m + c) (choices s)
    → a * bellman q choices top f s ≤ b * bellman q choices top' g s + c
bellman-affine q choices a b c top top' f g s at_goal each =
    elim (is_goal q s)
    as (λ goal. a * (if goal then top else (if is_dead q s then 0 else optimum (side_at q s) f (choices s)))
    ≤ b * (if goal then top' else (if is_dead q s then 0 else optimum (side_at q s) g (choices s))) + c) [
      | true ↦ at_goal
      | false ↦ elim (is_dead q s) as (λ dead. a * (if dead then 0 else optimum (side_at q s) f (choices s))
          ≤ b * (if dead then 0 else optimum (side_at q s) g (choices s)) + c) [
            | true ↦ omega arith
            | false ↦ optimum-affine (side_at q s) f g a b c (choices s) each
          ]
    ]
