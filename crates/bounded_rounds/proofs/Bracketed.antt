-- Rounded steps bracket the exact values.
use Rattle.std.proofs.Common.{ℕ, ◌+◌, ◌-◌, ◌*◌, ◌/◌, ◌^◌, ◌<◌, Bool, List, slice_index, arith, subst}
use Rattle.game_model.specs.Query.{Query, IsQuery, states}
use Rattle.game_model.specs.Values.{denominator, numerator}
use Rattle.game_model.specs.Limits.{unit}
use Rattle.game_model.specs.Rounded.{opening}
use Rattle.game_model.proofs.Rises.{pow-one}
use Rattle.bounded_rounds.specs.Steps.{down_from, up_from, IsSweep}
use Rattle.bounded_rounds.specs.Exact.{exact_from, next_numerator, IsNext, IsBracketed}
use Rattle.bounded_rounds.proofs.Rounding.{steps_from-below, steps_from-above, down-above, down-below, up-above}
use Rattle.bounded_rounds.proofs.Rounding.{up-below}
use Rattle.bounded_rounds.proofs.Opening.{exact_from-opening, exact_from-next}

pub IsBracketed-steps : (q : Query) (table : ℕ → ℕ) (k s : ℕ) → IsQuery q
    → IsBracketed k (denominator q.game ^ k) (down_from q table k s) (up_from q table k s) (exact_from q table k s)
IsBracketed-steps q table k s posed = record {
  low = omega (arith, steps_from-below (λ x w. x / w) 0 q table posed down-above k s);
  high = omega (arith, steps_from-above (λ x w. (x + (w - 1)) / w) 0 q table posed up-below k s);
  near_low = omega (arith, steps_from-above (λ x w. x / w) 1 q table posed down-below k s);
  near_high = omega (arith, steps_from-below (λ x w. (x + (w - 1)) / w) 1 q table posed up-above k s);
}

-- the entries of a sweep do
pub IsBracketed-sweep : (q : Query) (table : ℕ → ℕ) (k : ℕ) (lower upper : List ℕ)
    → IsQuery q → IsSweep q table k lower upper → (s : ℕ) → s < states q
    → IsBracketed k (denominator q.game ^ k) (slice_index lower s) (slice_index upper s) (exact_from q table k s)
IsBracketed-sweep q table k lower upper posed sweep s inside =
    rw (sweep.down s inside, sweep.up s inside) (IsBracketed-steps q table k s posed)

pub IsBracketed-opening : (q : Query) (k : ℕ) (lower upper : List ℕ)
    → IsQuery q → IsSweep q (opening q) k lower upper → (s : ℕ) → s < states q
    → IsBracketed k (denominator q.game ^ k) (slice_index lower s) (slice_index upper s) (unit * numerator q k s)
IsBracketed-opening q k lower upper posed sweep s inside =
    subst (IsBracketed k (denominator q.game ^ k) (slice_index lower s) (slice_index upper s))
    (exact_from-opening q k s) (IsBracketed-sweep q (opening q) k lower upper posed sweep s inside)

pub IsBracketed-next : (q : Query) (table : ℕ → ℕ) (holds : ℕ → Bool) (lower upper : List ℕ)
    → IsQuery q → IsNext q table holds → IsSweep q table 1 lower upper → (s : ℕ) → s < states q
    → IsBracketed 1 (denominator q.game) (slice_index lower s) (slice_index upper s) (unit * next_numerator q holds s)
IsBracketed-next q table holds lower upper posed next sweep s inside =
    subst (λ (parts : ℕ). IsBracketed 1 parts (slice_index lower s) (slice_index upper s)
    (unit * next_numerator q holds s)) (pow-one (denominator q.game))
    (subst (IsBracketed 1 (denominator q.game ^ 1) (slice_index lower s) (slice_index upper s))
    (exact_from-next q table holds posed next s inside) (IsBracketed-sweep q table 1 lower upper posed sweep s inside))
