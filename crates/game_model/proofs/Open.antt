-- A k-step value is at most the value of not being lost after any number of steps.
use Rattle.std.proofs.Common.{◌≡◌, ℕ, zero, suc, ◌*◌, ◌/◌, ◌^◌, ◌≤◌, Bool, true, false, List, get_or, arith, refl}
use Rattle.std.specs.Prelude.{slice_index_or}
use Rattle.std.specs.Bool.{if◌then◌else◌}
use Rattle.std.proofs.Math.Nat.{mul-le-mul_right, pow-suc, pow-zero}
use Rattle.game_model.specs.Game.{Distribution, choices_of}
use Rattle.game_model.specs.Query.{Query, is_goal, is_dead, side_at}
use Rattle.game_model.specs.Values.{weighted_sum, denominator, numerator_of, numerator}
use Rattle.game_model.specs.Dual.{open_numerator}
use Rattle.game_model.proofs.Choices.{AreChoicesOf}
use Rattle.game_model.proofs.Best.{optimum-le, weighted_sum-le}
use Rattle.game_model.proofs.Rises.{scaled-le, numerator_of-most}

marked-open : (goal dead lost : Bool) (a b top top' x y : ℕ) → a * top ≤ b * top' → a * x ≤ b * y
    → (lost ≡ true → (if goal then top else (if dead then 0 else x)) ≡ 0)
    → a * (if goal then top else (if dead then 0 else x)) ≤ b * (if goal then top' else (if lost then 0 else y))
marked-open true dead lost a b top top' x y at_goal each none = at_goal
marked-open false true lost a b top top' x y at_goal each none = let at : (z : ℕ) → a * 0 ≤ z = λ z. omega arith in at _
marked-open false false true a b top top' x y at_goal each none =
    let no : x ≡ 0 = none refl in
    let at : a * x ≤ b * 0 = rw no (omega arith) in
    at
marked-open false false false a b top top' x y at_goal each none = each

opening-open : (goal lost : Bool) (d : ℕ) → (lost ≡ true → ◌≡◌ {A = ℕ} (if goal then 1 else 0) 0)
    → d ^ 0 * (if goal then 1 else 0) ≤ d ^ 0 * (if lost then 0 else 1)
opening-open true true d none = let one : ℕ = 1 in let no : one ≡ 0 = none refl in absurd (omega arith)
opening-open true false d none = let at : d ^ 0 * 1 ≤ d ^ 0 * 1 = omega arith in at
opening-open false true d none = let at : d ^ 0 * 0 ≤ d ^ 0 * 0 = omega arith in at
opening-open false false d none = let at : d ^ 0 * 0 ≤ d ^ 0 * 1 = omega arith in at

first-open : (goal : Bool) (p z x : ℕ) → z ≡ 1 → p * (if goal then 1 else 0) ≤ z * (if goal then p else x)
first-open true p z x one = let at : p * 1 ≤ z * p = rw one (omega arith) in at
first-open false p z x one = let at : p * 0 ≤ z * x = omega arith in at

last-open : (lost : Bool) (p z x : ℕ) → z ≡ 1 → x ≤ p → (lost ≡ true → x ≡ 0) → z * x ≤ p * (if lost then 0 else 1)
last-open true p z x one most none = let no : x ≡ 0 = none refl in let at : z * x ≤ p * 0 = rw no (omega arith) in at
last-open false p z x one most none = let at : z * x ≤ p * 1 = rw one (omega (arith, most)) in at

pub numerator-open : (q : Query) (lost : List Bool) → AreChoicesOf q.game (choices_of q.game)
    → ((s : ℕ) → slice_index_or lost s false ≡ true → (k : ℕ) → numerator q k s ≡ 0) → (k j s : ℕ)
    → denominator q.game ^ j * numerator q k s ≤ denominator q.game ^ k * open_numerator q lost j s
unfolding open_numerator numerator_of
numerator-open q lost chosen none zero zero s =
    opening-open (is_goal q s) (slice_index_or lost s false) (denominator q.game) (λ h. none s h zero)
numerator-open q lost chosen none zero (suc j) s =
    first-open (is_goal q s) (denominator q.game ^ suc j) (denominator q.game ^ 0) _ (pow-zero (denominator q.game))
numerator-open q lost chosen none (suc k) zero s = last-open (slice_index_or lost s false)
    (denominator q.game ^ suc k) (denominator q.game ^ 0) (numerator q (suc k) s) (pow-zero (denominator q.game))
    (numerator_of-most q (choices_of q.game) chosen (suc k) s) (λ h. none s h (suc k))
numerator-open q lost chosen none (suc k) (suc j) s =
    let D : ℕ = denominator q.game in
    let below : (m : Distribution) → D ^ suc j * (D / m.total * weighted_sum (numerator q k) m.edges)
    ≤ D ^ suc k * (D / m.total * weighted_sum (open_numerator q lost j) m.edges) =
    λ m. scaled-le (D ^ suc j) (D ^ suc k) (D / m.total) (weighted_sum (numerator q k) m.edges)
    (weighted_sum (open_numerator q lost j) m.edges)
    (rw (pow-suc D j, pow-suc D k) (omega (
      arith,
      mul-le-mul_right D (weighted_sum-le (numerator q k) (open_numerator q lost j) (D ^ j) (D ^ k) m.edges
          (λ i d l. numerator-open q lost chosen none k j (get_or m.edges i d).to)),
    ))) in
    marked-open (is_goal q s) (is_dead q s) (slice_index_or lost s false) (D ^ suc j) (D ^ suc k) (D ^ suc k)
    (D ^ suc j) _ _ (omega arith)
    (optimum-le (side_at q s) (λ m. D / m.total * weighted_sum (numerator q k) m.edges)
    (λ m. D / m.total * weighted_sum (open_numerator q lost j) m.edges) (D ^ suc j) (D ^ suc k) (choices_of q.game s)
    (λ i d l. below (get_or (choices_of q.game s) i d)))
    (λ h. none s h (suc k))
