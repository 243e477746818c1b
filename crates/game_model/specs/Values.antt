-- This module defines the values of a question, as whole numerators over one common denominator.
use Rattle.std.specs.Prelude.{ℕ, zero, suc, ◌*◌, ◌/◌, ◌^◌, List, [], ◌∷◌, sum_by, fold, if◌then◌else◌, max, min}
use Rattle.game_model.specs.declared.game.Edge.{Edge}
use Rattle.game_model.specs.declared.game.Side.{Side}
use Rattle.game_model.specs.declared.game.Side.TheVariants.{Max, Min}
use Rattle.game_model.specs.Game.{Distribution, choices_of}
use Rattle.game_model.specs.Query.{Query, is_goal, is_dead, side_at}

-- This is the better of two values for a side.
abbrev pub better : Side → ℕ → ℕ → ℕ
better Max a b = max a b
better Min a b = min a b

-- The optimum of the elements is their greatest value for the maximiser and their least for the minimiser. It is 0 if
-- there are no elements.
abbrev pub optimum : {X : Type 0} → Side → (X → ℕ) → List X → ℕ
optimum side value [] = 0
optimum side value (x ∷ xs) = fold (λ best y. better side best (value y)) (value x) xs

-- This is the sum of weight times value of the successor.
abbrev pub weighted_sum : (ℕ → ℕ) → List Edge → ℕ
weighted_sum table edges = sum_by (λ e. e.weight * table e.to) edges

-- Goals have the top value, and dead states have 0. At every other state the side takes the optimum of its choices.
abbrev pub bellman : Query → (ℕ → List Distribution) → ℕ → (Distribution → ℕ) → ℕ → ℕ
bellman q choices top value s = if is_goal q s then top else
    (if is_dead q s then 0 else optimum (side_at q s) value (choices s))

-- This is the product of the totals of the choices of a state.
abbrev pub total_product : List Distribution → ℕ
total_product [] = 1
total_product (choice ∷ others) = choice.total * total_product others

-- The common denominator is the product of all totals.
abbrev pub denominator : List (List Distribution) → ℕ
denominator [] = 1
denominator (choices ∷ game) = total_product choices * denominator game

-- These are the k-step numerators if each state has these choices.
unfoldable pub numerator_of : Query → (ℕ → List Distribution) → ℕ → ℕ → ℕ
numerator_of q choices zero s = if is_goal q s then 1 else 0
numerator_of q choices (suc k) s =
    bellman q choices (denominator q.game ^ suc k)
    (λ choice. denominator q.game / choice.total * weighted_sum (numerator_of q choices k) choice.edges) s

-- The value of reaching a goal within k steps is this numerator over the k-th power of the denominator.
abbrev pub numerator : Query → ℕ → ℕ → ℕ
numerator q k s = numerator_of q (choices_of q.game) k s
