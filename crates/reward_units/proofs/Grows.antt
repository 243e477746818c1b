-- What is expected grows with the rewards of the choices that a game has, whatever others would pay.
use Rattle.std.proofs.Common.{ℕ, zero, suc, ◌+◌, ◌*◌, ◌^◌, ◌<◌, ◌≤◌, List, [], ◌∷◌, length, sum_by, arith, refl}
use Rattle.std.specs.List.{range_with_len}
use Rattle.std.proofs.Math.Nat.{mul-le-mul_left}
use Rattle.std.proofs.lemmas.List.Sums.{sum_by-cons}
use Rattle.game_model.specs.declared.game.Side.TheVariants.{Max, Min}
use Rattle.game_model.specs.Game.{choices_of, choice_of}
use Rattle.game_model.specs.Query.{Query, IsQuery, states, is_goal, is_dead, side_at}
use Rattle.game_model.specs.Values.{denominator}
use Rattle.game_model.proofs.Choices.{IsChoiceOf-choice_of}
use Rattle.strategies.specs.Strategies.{Turn, Strategy, IsStrategyOf, of_side}
use Rattle.strategies.proofs.Turns.{marked-le, of_side-inside, worth-le}
use Rattle.expected_rewards.specs.Rewards.{Rewards, expected}

-- the sum over the faces of a die
sums-grow : (a b : ℕ) (f g : ℕ → ℕ) (xs : List ℕ) → ((x : ℕ) → a * f x ≤ b * g x) → a * sum_by f xs ≤ b * sum_by g xs
sums-grow a b f g [] h = omega arith
sums-grow a b f g (x ∷ xs) h =
    rw (sum_by-cons f x xs, sum_by-cons g x xs) (omega (arith, sums-grow a b f g xs h, h x))

-- what one turn pays, and what is expected after it
turn-factors : (a b d r r' v v' : ℕ) → a * r ≤ b * r' → a * v ≤ b * v' → a * (r * d + v) ≤ b * (r' * d + v')
turn-factors a b d r r' v v' h k = omega (arith, mul-le-mul_left d h, k)

module _ (q : Query) (posed : IsQuery q) (rewards more : Rewards) (a b faces : ℕ) (greatest least : Strategy)
    (up : IsStrategyOf q Max greatest) (down : IsStrategyOf q Min least)
    (each : (s c : ℕ) → s < states q → c < length (choices_of q.game s) → a * rewards s c ≤ b * more s c) where
  pub grows-inside : (k : ℕ) (past : List Turn) (s : ℕ) → s < states q
      → a * expected q rewards faces greatest least k past s ≤ b * expected q more faces greatest least k past s
  unfolding expected
  grows-inside zero past s inside = let at : a * 0 ≤ b * 0 = omega arith in at
  grows-inside (suc k) past s inside =
      let none : a * 0 ≤ b * 0 = omega arith in
      marked-le (is_goal q s) (is_dead q s) a b 0 0 _ _ none
      (sums-grow a b _ _ (range_with_len 0 faces) (λ throw.
      let choice : ℕ = of_side (side_at q s) greatest least past s throw in
      let turn : Turn =
      record { state = s; throw = throw; choice = of_side (side_at q s) greatest least past s throw } in
      let within : of_side (side_at q s) greatest least past s throw < length (choices_of q.game s) =
      of_side-inside q greatest least up down past s throw inside (side_at q s) refl in
      turn-factors a b (denominator q.game * (faces * denominator q.game) ^ k) (rewards s choice) (more s choice) _ _
      (each s (of_side (side_at q s) greatest least past s throw) inside within)
      (worth-le q (expected q rewards faces greatest least k (turn ∷ past))
      (expected q more faces greatest least k (turn ∷ past)) a b
      (choice_of q.game s (of_side (side_at q s) greatest least past s throw))
      (IsChoiceOf-choice_of q.game s (of_side (side_at q s) greatest least past s throw) posed.game inside within)
      (λ t there. grows-inside k (turn ∷ past) t there))))
