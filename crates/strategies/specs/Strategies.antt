-- This module defines strategies with memory and dice, and with which probability the play of two of them reaches a
-- goal.
use Rattle.std.specs.Prelude.{ℕ, zero, suc, ◌+◌, ◌-◌, ◌*◌, ◌/◌, ◌^◌, ◌<◌, ◌≤◌, ◌≡◌, List, [], ◌∷◌, length, sum_by}
use Rattle.std.specs.Prelude.{if◌then◌else◌, Option}
use Rattle.std.specs.List.{range_with_len}
use Rattle.game_model.specs.declared.game.Side.{Side}
use Rattle.game_model.specs.declared.game.Side.TheVariants.{Max, Min}
use Rattle.game_model.specs.Game.{Distribution, choices_of, choice_of}
use Rattle.game_model.specs.Query.{Query, states, is_goal, is_dead, side_at}
use Rattle.game_model.specs.Values.{weighted_sum, denominator, numerator}
use Rattle.game_model.specs.Limits.{unit}
use Rattle.game_model.specs.Plans.{planned_place}

-- A turn that was played has the state, the throw of a die, and the choice that was taken.
pub record Turn : Type 0 where
  pub state : ℕ
  pub throw : ℕ
  pub choice : ℕ

-- A strategy takes a choice by the turns so far, the last one first, by the present state and by a throw.
abbrev pub Strategy : Type 0
Strategy = List Turn → ℕ → ℕ → ℕ

-- At each state of its side the strategy takes a choice that exists, after any turns and at any throw.
abbrev pub IsStrategyOf : Query → Side → Strategy → Type 0
IsStrategyOf q side strategy = (past : List Turn) (s throw : ℕ) → s < states q → side_at q s ≡ side
    → strategy past s throw < length (choices_of q.game s)

-- This is the strategy of the side that moves.
abbrev pub of_side : Side → Strategy → Strategy → Strategy
of_side Max greatest least = greatest
of_side Min greatest least = least

-- A choice is worth this if its successors are worth the entries of the table.
abbrev pub worth : Query → (ℕ → ℕ) → Distribution → ℕ
worth q table choice = denominator q.game / choice.total * weighted_sum table choice.edges

-- This is the probability of reaching a goal within k steps, over the k-th power of faces times denominator. It is 1 at
-- a goal and 0 at a dead state. At every other state it is the average, over the faces of a die, of the choice that is
-- taken.
unfoldable pub reach : Query → ℕ → Strategy → Strategy → ℕ → List Turn → ℕ → ℕ
reach q faces greatest least zero past s = if is_goal q s then 1 else 0
reach q faces greatest least (suc k) past s =
    if is_goal q s then (faces * denominator q.game) ^ suc k else (if is_dead q s then 0 else
    sum_by (λ throw. let choice = of_side (side_at q s) greatest least past s throw in
    worth q (reach q faces greatest least k (record { state = s; throw = throw; choice = choice } ∷ past))
    (choice_of q.game s choice)) (range_with_len 0 faces))

-- This strategy takes the planned choice, and needs neither memory nor dice.
abbrev pub by_plan : Query → List (Option ℕ) → Strategy
by_plan q plan = λ past s throw. planned_place plan s (length (choices_of q.game s))

-- If `top` units are probability 1, the minimiser's plan holds every strategy of the maximiser to the table, at every
-- horizon.
abbrev pub HoldsOver : ℕ → Query → List (Option ℕ) → (ℕ → ℕ) → Type 0
HoldsOver top q plan table = (faces k s : ℕ) (opponent : Strategy) → IsStrategyOf q Max opponent → s < states q →
    top * reach q faces opponent (by_plan q plan) k [] s ≤ table s * (faces * denominator q.game) ^ k

-- For each m there is a horizon at which the maximiser's plan reaches the table, less 1/m, against every strategy of
-- the minimiser.
abbrev pub ReachesOver : ℕ → Query → List (Option ℕ) → (ℕ → ℕ) → Type 0
ReachesOver top q plan table = (m : ℕ) → 1 ≤ m
    → (k : ℕ) × ((faces s : ℕ) (opponent : Strategy) → IsStrategyOf q Min opponent → s < states q →
    m * table s * (faces * denominator q.game) ^ k
    ≤ top * (m * reach q faces (by_plan q plan) opponent k [] s + (faces * denominator q.game) ^ k))

-- In the units of tables, the minimiser's plan holds every strategy of the maximiser to the table.
abbrev pub HoldsAgainstAll : Query → List (Option ℕ) → (ℕ → ℕ) → Type 0
HoldsAgainstAll q plan table = HoldsOver unit q plan table

-- In the units of tables, the maximiser's plan reaches the table, less any 1/m, against every strategy of the
-- minimiser.
abbrev pub ReachesAgainstAll : Query → List (Option ℕ) → (ℕ → ℕ) → Type 0
ReachesAgainstAll q plan table = ReachesOver unit q plan table

-- This is the probability of not winning within k steps: of reaching no goal, or a goal only after a dead state.
abbrev pub avoid : Query → ℕ → Strategy → Strategy → ℕ → ℕ → ℕ
avoid q faces greatest least k s = (faces * denominator q.game) ^ k - reach q faces greatest least k [] s

-- With the minimiser's plan goals are avoided with at least the probability of the table, however many steps are made
-- and whatever the maximiser does.
abbrev pub AvoidsAgainstAll : Query → List (Option ℕ) → (ℕ → ℕ) → Type 0
AvoidsAgainstAll q plan table = (faces k s : ℕ) (opponent : Strategy) → IsStrategyOf q Max opponent → s < states q →
    table s * (faces * denominator q.game) ^ k ≤ unit * avoid q faces opponent (by_plan q plan) k s

-- For each m there is a number of steps within which, with the maximiser's plan, goals are avoided with at most the
-- probability of the table and 1/m, whatever the minimiser does.
abbrev pub IsAvoidedAgainstAll : Query → List (Option ℕ) → (ℕ → ℕ) → Type 0
IsAvoidedAgainstAll q plan table = (m : ℕ) → 1 ≤ m
    → (k : ℕ) × ((faces s : ℕ) (opponent : Strategy) → IsStrategyOf q Min opponent → s < states q →
    unit * m * avoid q faces (by_plan q plan) opponent k s ≤ (m * table s + unit) * (faces * denominator q.game) ^ k)

-- The maximiser can be sure of the k-step values, and the minimiser can hold the maximiser to them, whatever the other
-- does.
pub record AreBest (q : Query) (k : ℕ) : Type 0 where
  pub greatest : Strategy
  pub is_greatest : IsStrategyOf q Max greatest
  pub assured : (faces s : ℕ) (opponent : Strategy) → IsStrategyOf q Min opponent → s < states q
      → faces ^ k * numerator q k s ≤ reach q faces greatest opponent k [] s
  pub least : Strategy
  pub is_least : IsStrategyOf q Min least
  pub held : (faces s : ℕ) (opponent : Strategy) → IsStrategyOf q Max opponent → s < states q
      → reach q faces opponent least k [] s ≤ faces ^ k * numerator q k s
