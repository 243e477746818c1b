-- Plays of two strategies against the values of a question in which each state has these choices.
use Rattle.std.proofs.Common.{ℕ, zero, suc, ◌*◌, ◌^◌, ◌<◌, ◌≤◌, Bool, List, ◌∷◌, arith, refl}
use Rattle.std.specs.Bool.{if◌then◌else◌}
use Rattle.std.proofs.Math.Nat.{mul-le-mul_left, pow-suc, pow-zero}
use Rattle.game_model.specs.declared.game.Side.TheVariants.{Max, Min}
use Rattle.game_model.specs.Game.{Distribution, choice_of}
use Rattle.game_model.specs.Query.{Query, IsQuery, states, is_goal, is_dead, side_at}
use Rattle.game_model.specs.Values.{optimum, denominator, numerator_of}
use Rattle.game_model.proofs.Choices.{IsChoiceOf-choice_of}
use Rattle.strategies.specs.Strategies.{Turn, Strategy, IsStrategyOf, of_side, worth, reach}
use Rattle.strategies.proofs.Turns.{pow-product, marked-le, faces-least, faces-most, worth-le, of_side-inside}

opens-least : (goal : Bool) (f : ℕ) → f ^ 0 * (if goal then 1 else 0) ≤ 1 * (if goal then 1 else 0)
opens-least goal f = rw (pow-zero f) (omega arith)

opens-most : (goal : Bool) (f : ℕ) → 1 * (if goal then 1 else 0) ≤ f ^ 0 * (if goal then 1 else 0)
opens-most goal f = rw (pow-zero f) (omega arith)

-- factors of one turn
turn-least : (f p x y w : ℕ) → x ≤ y → p * y ≤ 1 * w → p * x ≤ w
turn-least f p x y w h k = omega (arith, mul-le-mul_left p h, k)

turn-most : (f p x y w : ℕ) → y ≤ x → 1 * w ≤ p * y → w ≤ p * x
turn-most f p x y w h k = omega (arith, mul-le-mul_left p h, k)

module _ (q : Query) (posed : IsQuery q) (choices : ℕ → List Distribution) (faces : ℕ) (greatest least : Strategy)
    (up : IsStrategyOf q Max greatest) (down : IsStrategyOf q Min least)
    (Fits : ℕ → List Turn → Type 0)
    (onward : (k : ℕ) (past : List Turn) (turn : Turn) → Fits (suc k) past → Fits k (turn ∷ past)) where
  taken : List Turn → ℕ → ℕ → ℕ
  taken past s throw = of_side (side_at q s) greatest least past s throw

  -- where each choice that is taken is worth at least the optimum, the play reaches at least the value
  pub reach-least : ((k : ℕ) (past : List Turn) (s throw : ℕ) → Fits (suc k) past → s < states q
      → optimum (side_at q s) (worth q (numerator_of q choices k)) (choices s)
      ≤ worth q (numerator_of q choices k) (choice_of q.game s (of_side (side_at q s) greatest least past s throw)))
      → (k : ℕ) (past : List Turn) (s : ℕ) → Fits k past → s < states q
      → faces ^ k * numerator_of q choices k s ≤ 1 * reach q faces greatest least k past s
  unfolding numerator_of reach
  reach-least each zero past s fits inside = opens-least (is_goal q s) faces
  reach-least each (suc k) past s fits inside =
      let value : ℕ = optimum (side_at q s) (worth q (numerator_of q choices k)) (choices s) in
      let one : (throw : ℕ) → faces ^ k * value ≤ worth q (reach q faces greatest least k
      (record { state = s; throw = throw; choice = of_side (side_at q s) greatest least past s throw } ∷ past))
      (choice_of q.game s (of_side (side_at q s) greatest least past s throw)) =
      λ throw.
      let turn : Turn =
      record { state = s; throw = throw; choice = of_side (side_at q s) greatest least past s throw } in
      let m : Distribution = choice_of q.game s (of_side (side_at q s) greatest least past s throw) in
      turn-least faces (faces ^ k) value (worth q (numerator_of q choices k) m)
      (worth q (reach q faces greatest least k (turn ∷ past)) m)
      (each k past s throw fits inside)
      (worth-le q (numerator_of q choices k) (reach q faces greatest least k (turn ∷ past)) (faces ^ k) 1 m
      (IsChoiceOf-choice_of q.game s _ posed.game inside
      (of_side-inside q greatest least up down past s throw inside (side_at q s) refl))
      (λ t within. reach-least each k (turn ∷ past) t (onward k past turn fits) within)) in
      marked-le (is_goal q s) (is_dead q s) (faces ^ suc k) 1 (denominator q.game ^ suc k)
      ((faces * denominator q.game) ^ suc k) value _
      (rw (pow-product faces (denominator q.game) (suc k)) (omega arith))
      (rw (pow-suc faces k) (omega (arith, faces-least _ (faces ^ k * value) faces one)))

  -- where each is worth at most the optimum, it reaches at most the value
  pub reach-most : ((k : ℕ) (past : List Turn) (s throw : ℕ) → Fits (suc k) past → s < states q
      → worth q (numerator_of q choices k) (choice_of q.game s (of_side (side_at q s) greatest least past s throw))
      ≤ optimum (side_at q s) (worth q (numerator_of q choices k)) (choices s))
      → (k : ℕ) (past : List Turn) (s : ℕ) → Fits k past → s < states q
      → 1 * reach q faces greatest least k past s ≤ faces ^ k * numerator_of q choices k s
  unfolding numerator_of reach
  reach-most each zero past s fits inside = opens-most (is_goal q s) faces
  reach-most each (suc k) past s fits inside =
      let value : ℕ = optimum (side_at q s) (worth q (numerator_of q choices k)) (choices s) in
      let one : (throw : ℕ) → worth q (reach q faces greatest least k
      (record { state = s; throw = throw; choice = of_side (side_at q s) greatest least past s throw } ∷ past))
      (choice_of q.game s (of_side (side_at q s) greatest least past s throw)) ≤ faces ^ k * value =
      λ throw.
      let turn : Turn =
      record { state = s; throw = throw; choice = of_side (side_at q s) greatest least past s throw } in
      let m : Distribution = choice_of q.game s (of_side (side_at q s) greatest least past s throw) in
      turn-most faces (faces ^ k) value (worth q (numerator_of q choices k) m)
      (worth q (reach q faces greatest least k (turn ∷ past)) m)
      (each k past s throw fits inside)
      (worth-le q (reach q faces greatest least k (turn ∷ past)) (numerator_of q choices k) 1 (faces ^ k) m
      (IsChoiceOf-choice_of q.game s _ posed.game inside
      (of_side-inside q greatest least up down past s throw inside (side_at q s) refl))
      (λ t within. reach-most each k (turn ∷ past) t (onward k past turn fits) within)) in
      marked-le (is_goal q s) (is_dead q s) 1 (faces ^ suc k) ((faces * denominator q.game) ^ suc k)
      (denominator q.game ^ suc k) _ value
      (rw (pow-product faces (denominator q.game) (suc k)) (omega arith))
      (rw (pow-suc faces k) (omega (arith, faces-most _ (faces ^ k * value) faces one)))
