-- Up values and up steps: what they say of an entry, and that they keep the order of tables.
use Rattle.std.proofs.Common.{◌≡◌, ℕ, ◌+◌, ◌-◌, ◌*◌, ◌/◌, ◌<◌, ◌≤◌, true, List, length, arith, ap, ◌∙◌, min}
use Rattle.std.specs.Bool.{if◌then◌else◌}
use Rattle.std.proofs.Math.Nat.{div-lt_iff_lt-mul, mul-le-mul_right, min-le_left, min-le_right, le-min}
use Rattle.game_model.specs.Game.{Distribution, choices_of}
use Rattle.game_model.specs.Query.{Query, IsQuery, is_goal, is_dead, side_at}
use Rattle.game_model.specs.Values.{weighted_sum, optimum}
use Rattle.game_model.specs.Limits.{unit}
use Rattle.game_model.specs.Rounded.{up_value, up_step, IsBelow, IsInductive}
use Rattle.game_model.proofs.Choices.{IsChoiceOf, AreChoicesOf, AreChoicesOf-choices_of}
use Rattle.game_model.proofs.Rises.{bellman-le}
use Rattle.game_laws.proofs.High.{ceil-above}
use Rattle.fixed_bellman.specs.Given.{IsFree}
use Rattle.fixed_bellman.proofs.Tables.{weighted_sum-rises}
use Rattle.inductive_check.specs.Held.{IsHeld}

-- a quotient that is rounded up is at most m where what is divided is within the divisor's worth of it
pub ceil-most : (x w m : ℕ) → 0 < w → x ≤ w * m → (x + (w - 1)) / w ≤ m
ceil-most x w m positive h =
    let below : (x + (w - 1)) / w < m + 1 = (div-lt_iff_lt-mul positive).1 (omega (arith, h)) in
    omega arith

-- a choice is held to a number exactly where its up value is at most it
pub up_value-held : (table : ℕ → ℕ) (u : ℕ) (m : Distribution) → 0 < m.total → IsHeld table u m → up_value table m ≤ u
up_value-held table u m positive held = ceil-most (weighted_sum table m.edges) m.total u positive (omega (arith, held))

pub held-up_value : (table : ℕ → ℕ) (u : ℕ) (m : Distribution) → 0 < m.total → up_value table m ≤ u → IsHeld table u m
held-up_value table u m positive most =
    omega (arith, ceil-above (weighted_sum table m.edges) m.total positive, mul-le-mul_right m.total most)

-- the up step of a goal, and of a state that is neither goal nor dead
pub up_step-goal : (q : Query) (table : ℕ → ℕ) (s : ℕ) → is_goal q s ≡ true → up_step q table s ≡ unit
up_step-goal q table s goal = ap (λ mark. if mark then unit
    else (if is_dead q s then 0 else optimum (side_at q s) (up_value table) (choices_of q.game s))) goal

pub up_step-free : (q : Query) (table : ℕ → ℕ) (s : ℕ) → IsFree q s
    → up_step q table s ≡ optimum (side_at q s) (up_value table) (choices_of q.game s)
up_step-free q table s free = ap (λ mark. if mark then unit
    else (if is_dead q s then 0 else optimum (side_at q s) (up_value table) (choices_of q.game s))) free.0
    ∙ ap (λ mark. if mark then 0 else optimum (side_at q s) (up_value table) (choices_of q.game s)) free.1

-- a greater table gives a choice a greater up value
up_value-le : (game : List (List Distribution)) (v w : ℕ → ℕ) (m : Distribution) → IsChoiceOf game m
    → ((t : ℕ) → t < length game → v t ≤ w t) → up_value v m ≤ up_value w m
up_value-le game v w m fits h =
    let same : up_value w m ≤ up_value w m = omega arith in
    let held : IsHeld w (up_value w m) m = held-up_value w (up_value w m) m fits.positive same in
    up_value-held v (up_value w m) m fits.positive (omega (arith, held, weighted_sum-rises game v w m fits h))

-- a greater table has a greater up step
pub up_step-le : (q : Query) (v w : ℕ → ℕ) → AreChoicesOf q.game (choices_of q.game) → IsBelow q v w → (s : ℕ)
    → up_step q v s ≤ up_step q w s
up_step-le q v w chosen h s =
    let step : 1 * up_step q v s ≤ 1 * up_step q w s =
    bellman-le q (choices_of q.game) 1 1 unit unit (up_value v) (up_value w) s (omega arith)
    (λ i d l. omega (arith, up_value-le q.game v w _ (chosen.each s i d l) h)) in
    omega (arith, step)

-- the lesser of two inductive tables is inductive
pub IsInductive-min : (q : Query) (v w : ℕ → ℕ) → IsQuery q → IsInductive q v → IsInductive q w
    → IsInductive q (λ s. min (v s) (w s))
IsInductive-min q v w h inductive inductive' s inside =
    let chosen : AreChoicesOf q.game (choices_of q.game) = AreChoicesOf-choices_of q.game h.game in
    let least : ℕ → ℕ = λ t. min (v t) (w t) in
    le-min
    (omega (arith, up_step-le q least v chosen (λ t within. min-le_left (v t) (w t)) s, inductive s inside))
    (omega (arith, up_step-le q least w chosen (λ t within. min-le_right (v t) (w t)) s, inductive' s inside))
