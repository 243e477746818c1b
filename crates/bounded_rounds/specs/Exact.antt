-- Exact values from an opening table, and of one step, are whole numerators over powers of the common denominator.
use Rattle.std.specs.Prelude.{◌≡◌, ℕ, zero, suc, ◌+◌, ◌*◌, ◌/◌, ◌^◌, ◌<◌, ◌≤◌, Bool, false, sum_by, if◌then◌else◌}
use Rattle.game_model.specs.Game.{choices_of}
use Rattle.game_model.specs.Query.{Query, states, is_goal, is_dead, side_at}
use Rattle.game_model.specs.Values.{optimum, weighted_sum, bellman, denominator}
use Rattle.game_model.specs.Limits.{unit}

-- The value of k steps that end with the opening table is this number of units over the k-th power of the denominator.
unfoldable pub exact_from : Query → (ℕ → ℕ) → ℕ → ℕ → ℕ
exact_from q opening zero s = opening s
exact_from q opening (suc k) s =
    bellman q (choices_of q.game) (unit * denominator q.game ^ suc k)
    (λ choice. denominator q.game / choice.total * weighted_sum (exact_from q opening k) choice.edges) s

-- The probability that one of these states is next is this number over the denominator.
abbrev pub next_numerator : Query → (ℕ → Bool) → ℕ → ℕ
next_numerator q holds s =
    optimum (side_at q s)
    (λ choice. denominator q.game / choice.total * sum_by (λ e. if holds e.to then e.weight else 0) choice.edges)
    (choices_of q.game s)

-- No state is a goal or dead. The opening table is the unit at these states, and else 0.
pub record IsNext (q : Query) (opening : ℕ → ℕ) (holds : ℕ → Bool) : Type 0 where
  pub goals : (s : ℕ) → s < states q → is_goal q s ≡ false
  pub deads : (s : ℕ) → s < states q → is_dead q s ≡ false
  pub opens : (s : ℕ) → s < states q → opening s ≡ (if holds s then unit else 0)

-- The value counts parts of a unit, and `parts` parts are one unit. It lies between two numbers of units, and is at
-- most `margin` units from each.
pub record IsBracketed (margin parts lower upper value : ℕ) : Type 0 where
  pub low : lower * parts ≤ value
  pub high : value ≤ upper * parts
  pub near_low : value ≤ (lower + margin) * parts
  pub near_high : upper * parts ≤ value + margin * parts
