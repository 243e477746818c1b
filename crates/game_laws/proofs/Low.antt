-- Rounded steps from below stay below some k-step value, and lose at most a unit each.
use Rattle.std.proofs.Common.{◌≡◌, ℕ, zero, suc, ◌+◌, ◌*◌, ◌/◌, ◌^◌, ◌<◌, ◌≤◌, Bool, true, false, List, length, arith}
use Rattle.std.proofs.Common.{◌∙◌, ap, subst, inl, inr, ◌⊎◌, get_or}
use Rattle.std.specs.List.{All}
use Rattle.std.specs.Prelude.{slice_index, slice_set}
use Rattle.std.proofs.lemmas.Bool.{cases_eq, cases_lt}
use Rattle.std.proofs.lemmas.List.{get_or-set_same, get_or-set_other, set_past}
use Rattle.std.specs.Bool.{if◌then◌else◌}
use Rattle.std.proofs.Math.Nat.{mul-le-mul_left, mul-le-mul_right, pow-suc, pow-zero, div-mul-le_self, lt-div-mul-add}
use Rattle.game_model.specs.Game.{Distribution, choices_of}
use Rattle.game_model.specs.Query.{Query, is_goal, is_dead, side_at}
use Rattle.game_model.specs.Values.{optimum, weighted_sum, bellman, denominator, numerator_of, numerator}
use Rattle.game_model.specs.Limits.{unit}
use Rattle.game_model.specs.Rounded.{down_value, down_step, down_steps}
use Rattle.game_model.specs.Bounds.{IsLow}
use Rattle.game_model.proofs.Choices.{IsChoiceOf, AreChoicesOf}
use Rattle.game_model.proofs.Best.{optimum-plus, weighted_sum-le, weighted_sum-plus}
use Rattle.game_model.proofs.Rises.{bellman-le, numerator_of-rises}

-- a quotient f of x, times powers of the denominator d = r * w, against a scaled sum r * y
floor-below : (f w r d p m x y : ℕ) → f * w ≤ x → r * w ≡ d → x * p ≤ m * y → f * (p * d) ≤ m * (r * y)
floor-below f w r d p m x y floor same below =
    rw (← same) (omega (arith, mul-le-mul_right (p * r) floor, mul-le-mul_right r below))

-- a rounded value is at most the k-step value of its choice
pub down_value-below : (q : Query) (choices : ℕ → List Distribution) (table : ℕ → ℕ) (k : ℕ) (m : Distribution)
    → IsChoiceOf q.game m
    → ((t : ℕ) → t < length q.game → table t * denominator q.game ^ k ≤ unit * numerator_of q choices k t)
    → down_value table m * denominator q.game ^ suc k
    ≤ unit * (denominator q.game / m.total * weighted_sum (numerator_of q choices k) m.edges)
down_value-below q choices table k m fits below =
    let D : ℕ = denominator q.game in
    let sums : D ^ k * weighted_sum table m.edges ≤ unit * weighted_sum (numerator_of q choices k) m.edges =
    weighted_sum-le table (numerator_of q choices k) (D ^ k) unit m.edges
    (λ i d l. omega (arith, below (get_or m.edges i d).to (fits.inside i d l))) in
    rw pow-suc (floor-below (down_value table m) m.total (D / m.total) D (D ^ k) unit (weighted_sum table m.edges)
    (weighted_sum (numerator_of q choices k) m.edges)
    (div-mul-le_self (weighted_sum table m.edges) m.total) fits.divides (omega (arith, sums)))

-- a down step of a table below k-step values is below (k + 1)-step values
pub down_step-below : (q : Query) (table : ℕ → ℕ) (k : ℕ) → AreChoicesOf q.game (choices_of q.game)
    → ((t : ℕ) → t < length q.game → table t * denominator q.game ^ k ≤ unit * numerator q k t)
    → (s : ℕ) → down_step q table s * denominator q.game ^ suc k ≤ unit * numerator q (suc k) s
unfolding numerator_of
down_step-below q table k chosen below s =
    let D : ℕ = denominator q.game in
    let each : All (λ m. D ^ suc k * down_value table m
    ≤ unit * (D / m.total * weighted_sum (numerator q k) m.edges)) (choices_of q.game s) =
    λ i d l. omega (
      arith,
      down_value-below q (choices_of q.game) table k (get_or (choices_of q.game s) i d)
          (chosen.each s i d l) below,
    ) in
    let step : D ^ suc k * down_step q table s ≤ unit * numerator q (suc k) s =
    bellman-le q (choices_of q.game) (D ^ suc k) unit unit (D ^ suc k) (down_value table) _ s (omega arith) each in
    omega (arith, step)

-- the down step of a low table is low
pub IsLow-down_step : (q : Query) (table : ℕ → ℕ) → AreChoicesOf q.game (choices_of q.game) → IsLow q table
    → IsLow q (down_step q table)
IsLow-down_step q table chosen low =
    record { horizon = suc low.horizon; below = λ s inside. down_step-below q table low.horizon chosen low.below s }

opening-below : (goal : Bool) (u d : ℕ) → (if goal then u else 0) * d ^ 0 ≤ u * (if goal then 1 else 0)
opening-below true u d = let at : u * d ^ 0 ≤ u * 1 = rw (pow-zero d) (omega arith) in at
opening-below false u d = let at : 0 * d ^ 0 ≤ u * 0 = omega arith in at

-- r down steps are below the r-step values
pub down_steps-below : (q : Query) → AreChoicesOf q.game (choices_of q.game) → (r s : ℕ)
    → down_steps q r s * denominator q.game ^ r ≤ unit * numerator q r s
unfolding down_steps numerator_of
down_steps-below q chosen zero s = opening-below (is_goal q s) unit (denominator q.game)
down_steps-below q chosen (suc r) s =
    down_step-below q (down_steps q r) r chosen (λ t inside. down_steps-below q chosen r t) s

-- one step from values that are all raised by a number
bellman-plus : (q : Query) (choices : ℕ → List Distribution) (top c : ℕ) (f : Distribution → ℕ) (s : ℕ)
    → bellman q choices (top + c) (λ m. f m + c) s ≤ bellman q choices top f s + c
bellman-plus q choices top c f s =
    elim (is_goal q s) as (λ goal.
    (if goal then top + c else (if is_dead q s then 0 else optimum (side_at q s) (λ m. f m + c) (choices s)))
    ≤ (if goal then top else (if is_dead q s then 0 else optimum (side_at q s) f (choices s))) + c) [
      | true ↦ omega arith
      | false ↦ elim (is_dead q s) as (λ dead. (if dead then 0 else optimum (side_at q s) (λ m. f m + c) (choices s))
          ≤ (if dead then 0 else optimum (side_at q s) f (choices s)) + c) [
            | true ↦ omega arith
            | false ↦ optimum-plus (side_at q s) f c (choices s)
          ]
    ]

lt-le : {a b : ℕ} → a < b → a ≤ b
lt-le {a} {b} h = omega arith

one-le-pow-zero : (d : ℕ) → 1 ≤ d ^ 0
one-le-pow-zero d = omega (arith, pow-zero d)

-- a quotient and one more, times powers of the denominator, against a scaled sum
floor-near : (f w r d p m x y c : ℕ) → x < f * w + w → r * w ≡ d → m * y ≤ p * (x + c * w)
    → m * (r * y) ≤ p * d * (f + suc c)
floor-near f w r d p m x y c floor same near =
    rw (← same) (omega (arith, mul-le-mul_left r near, mul-le-mul_left (r * p) (lt-le floor)))

opening-near : (goal : Bool) (u d : ℕ) → u * (if goal then 1 else 0) ≤ d ^ 0 * ((if goal then u else 0) + 0)
opening-near true u d = let at : u * 1 ≤ d ^ 0 * (u + 0) = omega (arith, mul-le-mul_right u (one-le-pow-zero d)) in at
opening-near false u d = let at : u * 0 ≤ d ^ 0 * (0 + 0) = omega arith in at

-- a k-step value of a choice is at most its rounded value and k + 1 units
pub down_value-near : (q : Query) (table : ℕ → ℕ) (k : ℕ) (m : Distribution) → IsChoiceOf q.game m
    → ((t : ℕ) → t < length q.game → unit * numerator q k t ≤ denominator q.game ^ k * (table t + k))
    → unit * (denominator q.game / m.total * weighted_sum (numerator q k) m.edges)
    ≤ denominator q.game ^ suc k * (down_value table m + suc k)
down_value-near q table k m fits near =
    let D : ℕ = denominator q.game in
    let sums : unit * weighted_sum (numerator q k) m.edges ≤ D ^ k * weighted_sum (λ t. table t + k) m.edges =
    weighted_sum-le (numerator q k) (λ t. table t + k) unit (D ^ k) m.edges
    (λ i d l. near (get_or m.edges i d).to (fits.inside i d l)) in
    let raised : weighted_sum (λ t. table t + k) m.edges ≡ weighted_sum table m.edges + k * m.total =
    weighted_sum-plus table k m.edges ∙ ap (λ w. weighted_sum table m.edges + k * w) fits.sums in
    rw pow-suc (floor-near (down_value table m) m.total (D / m.total) D (D ^ k) unit (weighted_sum table m.edges)
    (weighted_sum (numerator q k) m.edges) k
    (lt-div-mul-add fits.positive) fits.divides
    (subst (λ x. unit * weighted_sum (numerator q k) m.edges ≤ D ^ k * x) raised sums))

-- and they lose at most one unit each
pub down_steps-near : (q : Query) → AreChoicesOf q.game (choices_of q.game) → (r s : ℕ)
    → unit * numerator q r s ≤ denominator q.game ^ r * (down_steps q r s + r)
unfolding down_steps numerator_of
down_steps-near q chosen zero s = opening-near (is_goal q s) unit (denominator q.game)
down_steps-near q chosen (suc r) s =
    let D : ℕ = denominator q.game in
    let each : All (λ m. unit * (D / m.total * weighted_sum (numerator q r) m.edges)
    ≤ D ^ suc r * (down_value (down_steps q r) m + suc r)) (choices_of q.game s) =
    λ i d l. down_value-near q (down_steps q r) r (get_or (choices_of q.game s) i d) (chosen.each s i d l)
    (λ t inside. down_steps-near q chosen r t) in
    let step : unit * numerator q (suc r) s
    ≤ D ^ suc r * bellman q (choices_of q.game) (unit + suc r) (λ m. down_value (down_steps q r) m + suc r) s =
    bellman-le q (choices_of q.game) unit (D ^ suc r) (D ^ suc r) (unit + suc r) _
    (λ m. down_value (down_steps q r) m + suc r) s (omega arith) each in
    let raised : D ^ suc r * bellman q (choices_of q.game) (unit + suc r) (λ m. down_value (down_steps q r) m + suc r) s
    ≤ D ^ suc r * (down_step q (down_steps q r) s + suc r) =
    mul-le-mul_left (D ^ suc r) (bellman-plus q (choices_of q.game) unit (suc r) (down_value (down_steps q r)) s) in
    omega (arith, step, raised)

-- a lower value and the values one step later, times powers of the denominator
later-below : (next v u d p n m : ℕ) → next ≤ v → v * p ≤ u * n → d * n ≤ 1 * m → next * (p * d) ≤ u * m
later-below next v u d p n m less below rises =
    omega (arith, mul-le-mul_right (p * d) less, mul-le-mul_right d below, mul-le-mul_left u rises)

-- a table whose entries are each at most that of a low table or its down value is low
pub IsLow-raised : (q : Query) (table next : ℕ → ℕ) → AreChoicesOf q.game (choices_of q.game) → IsLow q table
    → ((s : ℕ) → s < length q.game → (next s ≤ table s) ⊎ (next s ≤ down_step q table s)) → IsLow q next
IsLow-raised q table next chosen low raised =
    let D : ℕ = denominator q.game in
    record {
      horizon = suc low.horizon;
      below = λ s inside. elim (raised s inside) [
        | inl old ↦ rw pow-suc (later-below (next s) (table s) unit D (D ^ low.horizon) (numerator q low.horizon s)
            (numerator q (suc low.horizon) s) old (low.below s inside)
            (numerator_of-rises q (choices_of q.game) low.horizon s))
        | inr step ↦ omega
            (arith, mul-le-mul_right (D ^ suc low.horizon) step, down_step-below q table low.horizon chosen low.below s)
      ];
    }

-- a table with one entry raised, entry by entry
pub raised-entry : (table : List ℕ) (i value : ℕ) (step : ℕ → ℕ) → value ≤ step i
    → (s : ℕ) → (slice_index (slice_set table i value) s ≤ slice_index table s)
    ⊎ (slice_index (slice_set table i value) s ≤ step s)
raised-entry table i value step h s = elim (cases_eq s i) [
  | inl same ↦ elim (cases_lt i (length table)) [
    | inl inside ↦ rw same (inr (rw (get_or-set_same table i value 0 inside) h))
    | inr past ↦ rw (set_past table i value past) (inl (omega arith))
  ]
  | inr other ↦ rw (get_or-set_other table i s value 0 other) (inl (omega arith))
]
