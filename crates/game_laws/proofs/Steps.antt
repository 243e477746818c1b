-- Rounded steps keep the order of tables, and rise.
use Rattle.std.proofs.Common.{ℕ, zero, suc, ◌*◌, ◌/◌, ◌<◌, ◌≤◌, Bool, true, false, List, length, get_or, arith}
use Rattle.std.specs.Bool.{if◌then◌else◌}
use Rattle.std.proofs.Math.Nat.{le-div_iff_mul-le}
use Rattle.game_model.specs.Game.{Distribution, choices_of}
use Rattle.game_model.specs.Query.{Query, is_goal}
use Rattle.game_model.specs.Values.{weighted_sum}
use Rattle.game_model.specs.Limits.{unit}
use Rattle.game_model.specs.Rounded.{down_value, down_step, down_steps, opening, IsBelow, IsSettled}
use Rattle.game_model.proofs.Choices.{IsChoiceOf, AreChoicesOf}
use Rattle.game_model.proofs.Best.{weighted_sum-le}
use Rattle.game_model.proofs.Rises.{bellman-le}

-- a quotient rises with what is divided
div-le-div : (x y w : ℕ) → 0 < w → x ≤ y → x / w ≤ y / w
div-le-div x y w positive h =
    let below : x / w * w ≤ x = (le-div_iff_mul-le positive).0 (let same : x / w ≤ x / w = omega arith in same) in
    (le-div_iff_mul-le positive).1 (omega (arith, below, h))

pub down_value-le : (game : List (List Distribution)) (v w : ℕ → ℕ) (m : Distribution) → IsChoiceOf game m
    → ((t : ℕ) → t < length game → v t ≤ w t) → down_value v m ≤ down_value w m
down_value-le game v w m fits h =
    let sums : 1 * weighted_sum v m.edges ≤ 1 * weighted_sum w m.edges =
    weighted_sum-le v w 1 1 m.edges
    (λ i d l. omega (arith, h (get_or m.edges i d).to (fits.inside i d l))) in
    div-le-div (weighted_sum v m.edges) (weighted_sum w m.edges) m.total fits.positive (omega (arith, sums))

-- a greater table has a greater down step
pub down_step-le : (q : Query) (v w : ℕ → ℕ) → AreChoicesOf q.game (choices_of q.game)
    → ((t : ℕ) → t < length q.game → v t ≤ w t) → (s : ℕ) → down_step q v s ≤ down_step q w s
down_step-le q v w chosen h s =
    let step : 1 * down_step q v s ≤ 1 * down_step q w s =
    bellman-le q (choices_of q.game) 1 1 unit unit (down_value v) (down_value w) s (omega arith)
    (λ i d l. omega (arith, down_value-le q.game v w (get_or (choices_of q.game s) i d) (chosen.each s i d l) h)) in
    omega (arith, step)

opening-le : (goal : Bool) (top x : ℕ) → (if goal then top else 0) ≤ (if goal then top else x)
opening-le true top x = let at : top ≤ top = omega arith in at
opening-le false top x = let at : 0 ≤ x = omega arith in at

-- r-fold down steps rise with r
pub down_steps-rises : (q : Query) → AreChoicesOf q.game (choices_of q.game) → (r s : ℕ)
    → down_steps q r s ≤ down_steps q (suc r) s
unfolding down_steps
down_steps-rises q chosen zero s = opening-le (is_goal q s) unit _
down_steps-rises q chosen (suc r) s =
    down_step-le q (down_steps q r) (down_steps q (suc r)) chosen (λ t inside. down_steps-rises q chosen r t) s

-- a settled table that is nowhere below the opening table is nowhere below an r-fold down step
pub down_steps-settled : (q : Query) (table : ℕ → ℕ) → AreChoicesOf q.game (choices_of q.game)
    → IsBelow q (opening q) table → IsSettled q table → (r : ℕ) → IsBelow q (down_steps q r) table
unfolding down_steps
down_steps-settled q table chosen opens settled zero = opens
down_steps-settled q table chosen opens settled (suc r) = λ s inside.
    omega (
      arith,
      down_step-le q (down_steps q r) table chosen (down_steps-settled q table chosen opens settled r) s,
      settled s inside,
    )
