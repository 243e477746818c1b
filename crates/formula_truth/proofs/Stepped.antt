-- More goals, fewer dead states and a greater opening table give no lesser rounded steps.
use Rattle.std.proofs.Common.{◌≡◌, ◌<◌, ◌≤◌, ◌*◌, ◌/◌, ◌+◌, ◌-◌, ℕ, zero, suc, Bool, true, false, List, length, get_or}
use Rattle.std.proofs.Common.{arith, subst, refl}
use Rattle.std.specs.Bool.{if◌then◌else◌}
use Rattle.std.proofs.Math.Nat.{div-lt_iff_lt-mul, le-div_iff_mul-le}
use Rattle.game_model.specs.declared.game.Side.{Side}
use Rattle.game_model.specs.Game.{Distribution, choices_of}
use Rattle.game_model.specs.Query.{Query, IsQuery, is_goal, is_dead, side_at}
use Rattle.game_model.specs.Values.{optimum, weighted_sum}
use Rattle.game_model.specs.Limits.{unit}
use Rattle.game_model.specs.Rounded.{down_steps, opening}
use Rattle.game_model.proofs.Choices.{IsChoiceOf, AreChoicesOf, AreChoicesOf-choices_of}
use Rattle.game_model.proofs.Best.{optimum-le, weighted_sum-le, weighted_sum-most}
use Rattle.game_model.proofs.Rises.{bellman-most}
use Rattle.bounded_rounds.specs.Steps.{steps_from}
use Rattle.bounded_rounds.proofs.Stepping.{step_of}
use Rattle.bounded_rounds.proofs.Opening.{down_from-opening}
use Rattle.formula_truth.proofs.Ordered.{step-wider}

-- 1. Rounded quotients.

-- a rounded quotient rises with what is divided, and that of a multiple is at most the factor
pub record IsRounding (round : ℕ → ℕ → ℕ) : Type 0 where
  pub rises : (x y w : ℕ) → 0 < w → x ≤ y → round x w ≤ round y w
  pub most : (x w c : ℕ) → 0 < w → x ≤ w * c → round x w ≤ c

quotient-rises : (x y w : ℕ) → 0 < w → x ≤ y → x / w ≤ y / w
quotient-rises x y w positive h =
    let below : x / w * w ≤ x = (le-div_iff_mul-le positive).0 (let same : x / w ≤ x / w = omega arith in same) in
    (le-div_iff_mul-le positive).1 (omega (arith, below, h))

quotient-most : (x w c : ℕ) → 0 < w → x < w * c + w → x / w ≤ c
quotient-most x w c positive h =
    let below : x / w < c + 1 = (div-lt_iff_lt-mul positive).1 (omega (arith, h)) in
    omega arith

pub down-rounding : IsRounding (λ x w. x / w)
down-rounding = record { rises = quotient-rises; most = λ x w c positive h. quotient-most x w c positive (omega arith) }

pub up-rounding : IsRounding (λ x w. (x + (w - 1)) / w)
up-rounding = record {
  rises = λ x y w positive h. quotient-rises (x + (w - 1)) (y + (w - 1)) w positive (omega arith);
  most = λ x w c positive h. quotient-most (x + (w - 1)) w c positive (omega arith);
}

-- 2. Steps.

abbrev pub IsUnder : ℕ → (ℕ → ℕ) → (ℕ → ℕ) → Type 0
IsUnder n v w = (t : ℕ) → t < n → v t ≤ w t

abbrev pub AreUnits : ℕ → (ℕ → ℕ) → Type 0
AreUnits n v = (t : ℕ) → t < n → v t ≤ unit

module _ (round : ℕ → ℕ → ℕ) (is : IsRounding round) (game : List (List Distribution)) where
  value-rises : (v w : ℕ → ℕ) (m : Distribution) → IsChoiceOf game m → IsUnder (length game) v w
      → 1 * round (weighted_sum v m.edges) m.total ≤ 1 * round (weighted_sum w m.edges) m.total
  value-rises v w m fits h =
      let sums : 1 * weighted_sum v m.edges ≤ 1 * weighted_sum w m.edges =
      weighted_sum-le v w 1 1 m.edges (λ i d l. omega (arith, h _ (fits.inside i d l))) in
      omega (
        arith,
        is.rises (weighted_sum v m.edges) (weighted_sum w m.edges) m.total fits.positive (omega (arith, sums)),
      )

  value-most : (v : ℕ → ℕ) (m : Distribution) → IsChoiceOf game m → AreUnits (length game) v
      → round (weighted_sum v m.edges) m.total ≤ unit
  value-most v m fits h =
      is.most (weighted_sum v m.edges) m.total unit fits.positive
      (subst (λ w. weighted_sum v m.edges ≤ w * unit) fits.sums
      (weighted_sum-most v unit m.edges (λ i d l. h _ (fits.inside i d l))))

pub step-most : (round : ℕ → ℕ → ℕ) → IsRounding round → (q : Query) → AreChoicesOf q.game (choices_of q.game)
    → (v : ℕ → ℕ) → AreUnits (length q.game) v → (s : ℕ) → step_of round q v s ≤ unit
step-most round is q chosen v h s =
    bellman-most q (choices_of q.game) unit unit _ s (omega arith)
    (λ i d l. value-most round is q.game v _ (chosen.each s i d l) h)

pub steps-most : (round : ℕ → ℕ → ℕ) → IsRounding round → (q : Query) → AreChoicesOf q.game (choices_of q.game)
    → (v : ℕ → ℕ) → AreUnits (length q.game) v → (k : ℕ) → AreUnits (length q.game) (steps_from (step_of round q) v k)
unfolding steps_from
steps-most round is q chosen v h zero t inside = h t inside
steps-most round is q chosen v h (suc k) t inside =
    step-most round is q chosen (steps_from (step_of round q) v k) (steps-most round is q chosen v h k) t

-- 3. Of two questions about one game with one ownership.

module _ (game : List (List Distribution)) (sides : List Side) (goals deads more fewer : List Bool)
    (rises : (s : ℕ) → get_or goals s false ≡ true → get_or more s false ≡ true)
    (falls : (s : ℕ) → get_or fewer s false ≡ true → get_or deads s false ≡ true)
    (chosen : AreChoicesOf game (choices_of game)) where
  abbrev narrow : Query
  narrow = record { game = game; sides = sides; goals = goals; deads = deads }

  abbrev wide : Query
  wide = record { game = game; sides = sides; goals = more; deads = fewer }

  step-rises : (round : ℕ → ℕ → ℕ) → IsRounding round → (v w : ℕ → ℕ) → AreUnits (length game) v
      → IsUnder (length game) v w → (s : ℕ) → step_of round narrow v s ≤ step_of round wide w s
  step-rises round is v w units under s =
      let each : 1 * optimum (side_at narrow s) (λ m. round (weighted_sum v m.edges) m.total) (choices_of game s)
      ≤ 1 * optimum (side_at wide s) (λ m. round (weighted_sum w m.edges) m.total) (choices_of game s) =
      optimum-le (side_at narrow s) _ _ 1 1 (choices_of game s)
      (λ i d l. value-rises round is game v w _ (chosen.each s i d l) under) in
      step-wider (is_goal narrow s) (is_dead narrow s) (is_goal wide s) (is_dead wide s) unit _ _ (rises s) (falls s)
      (omega (arith, each)) (step-most round is narrow chosen v units s)

  pub steps-rise : (round : ℕ → ℕ → ℕ) → IsRounding round → (v w : ℕ → ℕ)
      → AreUnits (length game) v → IsUnder (length game) v w → (k : ℕ)
      → IsUnder (length game) (steps_from (step_of round narrow) v k) (steps_from (step_of round wide) w k)
  unfolding steps_from
  steps-rise round is v w units under zero t inside = under t inside
  steps-rise round is v w units under (suc k) t inside =
      step-rises round is (steps_from (step_of round narrow) v k) (steps_from (step_of round wide) w k)
      (steps-most round is narrow chosen v units k) (steps-rise round is v w units under k) t

  opening-rises : (goal goal' : Bool) → (goal ≡ true → goal' ≡ true)
      → (if goal then unit else 0) ≤ (if goal' then unit else 0)
  opening-rises true true h = let at : unit ≤ unit = omega arith in at
  opening-rises true false h = let no : false ≡ true = h refl in absurd (cc)
  opening-rises false goal' h = let at : 0 ≤ (if goal' then unit else 0) = omega arith in at

  pub openings-rise : IsUnder (length game) (opening narrow) (opening wide)
  openings-rise s inside = opening-rises (is_goal narrow s) (is_goal wide s) (rises s)

-- 4. From the opening table of iteration.

units-if : (mark : Bool) → (if mark then unit else 0) ≤ unit
units-if true = let at : unit ≤ unit = omega arith in at
units-if false = let at : 0 ≤ unit = omega arith in at

pub opening-units : (q : Query) → AreUnits (length q.game) (opening q)
opening-units q s inside = units-if (is_goal q s)

pub marked-units : (n : ℕ) (marks : ℕ → Bool) → AreUnits n (λ s. if marks s then unit else 0)
marked-units n marks s inside = units-if (marks s)

pub down_steps-most : (q : Query) → IsQuery q → (r s : ℕ) → s < length q.game → down_steps q r s ≤ unit
down_steps-most q posed r s inside =
    subst (λ v. v ≤ unit) (down_from-opening q posed r s) (steps-most (λ x w. x / w) down-rounding q
    (AreChoicesOf-choices_of q.game posed.game) (opening q) (opening-units q) r s inside)
