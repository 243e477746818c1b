-- How near an upper table comes that is below the rest of the swapped question's lower table.
use Rattle.std.proofs.Common.{◌≡◌, ℕ, ◌+◌, ◌*◌, ◌^◌, ◌<◌, ◌≤◌, Bool, true, false, List, length, arith, ap}
use Rattle.std.specs.Prelude.{slice_index_or}
use Rattle.std.proofs.Math.Nat.{mul-le-mul_right}
use Rattle.game_model.specs.Game.{choices_of}
use Rattle.game_model.specs.Query.{Query, is_goal}
use Rattle.game_model.specs.Values.{denominator, numerator}
use Rattle.game_model.specs.Limits.{unit}
use Rattle.game_model.specs.Rounded.{down_steps}
use Rattle.game_model.specs.Dual.{open_numerator, swapped}
use Rattle.game_model.proofs.Choices.{AreChoicesOf}
use Rattle.game_laws.proofs.Low.{down_steps-near}
use Rattle.game_model.proofs.Swap.{open_numerator-swapped}

near-above : (top u c r d m n : ℕ) → m + n ≡ d → top * n ≤ d * (c + r) → u + c ≤ top → u * d ≤ top * m + r * d
near-above top u c r d m n whole near within = omega (arith, near, mul-le-mul_right d within, ap (λ x. top * x) whole)

-- an upper value that is at most the unit less the swapped value is at most r units above the value of not being lost
-- after r steps
pub swapped-value-near : (q : Query) (lost : List Bool) → AreChoicesOf q.game (choices_of q.game)
    → length q.sides ≡ length q.game → ((s : ℕ) → slice_index_or lost s false ≡ true → is_goal q s ≡ false)
    → (r s u : ℕ) → s < length q.game → u + down_steps (swapped q lost) r s ≤ unit
    → u * denominator q.game ^ r ≤ unit * open_numerator q lost r s + r * denominator q.game ^ r
swapped-value-near q lost chosen sides apart r s u inside within =
    near-above unit u (down_steps (swapped q lost) r s) r (denominator q.game ^ r) (open_numerator q lost r s)
    (numerator (swapped q lost) r s)
    (open_numerator-swapped q lost chosen sides apart r s inside) (down_steps-near (swapped q lost) chosen r s) within
