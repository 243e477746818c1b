-- More goals and fewer dead states give no smaller values.
use Rattle.std.proofs.Common.{◌≡◌, ◌<◌, ◌≤◌, ◌*◌, ◌/◌, ◌+◌, ◌^◌, ℕ, zero, suc, Bool, true, false, List, [], ◌∷◌, length}
use Rattle.std.proofs.Common.{get_or, arith, refl, sum_by}
use Rattle.std.specs.List.{All}
use Rattle.std.specs.Bool.{if◌then◌else◌}
use Rattle.std.proofs.Math.Nat.{mul-le-mul_left}
use Rattle.std.proofs.lemmas.List.Elements.{All-head, All-tail}
use Rattle.std.proofs.lemmas.List.Sums.{sum_by-cons}
use Rattle.game_model.specs.declared.game.Edge.{Edge}
use Rattle.game_model.specs.declared.game.Side.{Side}
use Rattle.game_model.specs.Game.{Distribution, choices_of}
use Rattle.game_model.specs.Query.{Query, is_goal, is_dead, side_at}
use Rattle.game_model.specs.Values.{optimum, weighted_sum, denominator, numerator_of, numerator}
use Rattle.game_model.specs.Limits.{unit}
use Rattle.game_model.specs.Bounds.{IsNear, IsHigh}
use Rattle.game_model.proofs.Choices.{IsChoiceOf, AreChoicesOf}
use Rattle.game_model.proofs.Best.{optimum-le, weighted_sum-le}
use Rattle.game_model.proofs.Rises.{numerator_of-most}
use Rattle.bounded_rounds.specs.Exact.{next_numerator}

-- 1. One step.

pub step-wider : (goal dead goal' dead' : Bool) (top x y : ℕ) → (goal ≡ true → goal' ≡ true)
    → (dead' ≡ true → dead ≡ true) → x ≤ y → (if goal then top else (if dead then 0 else x)) ≤ top
    → (if goal then top else (if dead then 0 else x)) ≤ (if goal' then top else (if dead' then 0 else y))
step-wider true dead true dead' top x y rises falls le most = most
step-wider true dead false dead' top x y rises falls le most = let no : false ≡ true = rises refl in absurd (cc)
step-wider false dead true dead' top x y rises falls le most = most
step-wider false true false dead' top x y rises falls le most = omega arith
step-wider false false false true top x y rises falls le most = let no : false ≡ true = falls refl in absurd (cc)
step-wider false false false false top x y rises falls le most = le

opening-wider : (goal goal' : Bool) → (goal ≡ true → goal' ≡ true) → (if goal then 1 else 0) ≤ (if goal' then 1 else 0)
opening-wider true true rises = let at : 1 ≤ 1 = omega arith in at
opening-wider true false rises = let no : false ≡ true = rises refl in absurd (cc)
opening-wider false goal' rises = let at : 0 ≤ (if goal' then 1 else 0) = omega arith in at

scaled-le : (r x y : ℕ) → 1 * x ≤ 1 * y → 1 * (r * x) ≤ 1 * (r * y)
scaled-le r x y h = omega (arith, mul-le-mul_left r h)

-- 2. All steps, of one game with one ownership.

module _ (game : List (List Distribution)) (sides : List Side) (goals deads more fewer : List Bool)
    (rises : (s : ℕ) → get_or goals s false ≡ true → get_or more s false ≡ true)
    (falls : (s : ℕ) → get_or fewer s false ≡ true → get_or deads s false ≡ true)
    (chosen : AreChoicesOf game (choices_of game)) where
  abbrev narrow : Query
  narrow = record { game = game; sides = sides; goals = goals; deads = deads }

  abbrev wide : Query
  wide = record { game = game; sides = sides; goals = more; deads = fewer }

  pub numerator-wider : (k s : ℕ) → numerator narrow k s ≤ numerator wide k s
  unfolding numerator_of
  numerator-wider zero s = opening-wider (is_goal narrow s) (is_goal wide s) (rises s)
  numerator-wider (suc k) s =
      let D : ℕ = denominator game in
      let each : 1
      * optimum (side_at narrow s) (λ m. D / m.total * weighted_sum (numerator narrow k) m.edges) (choices_of game s)
      ≤ 1 * optimum (side_at wide s) (λ m. D / m.total * weighted_sum (numerator wide k) m.edges) (choices_of game s) =
      optimum-le (side_at narrow s) _ _ 1 1 (choices_of game s) (λ i d l.
      let m : Distribution = get_or (choices_of game s) i d in
      scaled-le (D / m.total) (weighted_sum (numerator narrow k) m.edges) (weighted_sum (numerator wide k) m.edges)
      (weighted_sum-le (numerator narrow k) (numerator wide k) 1 1 m.edges
      (λ j d _. omega (arith, numerator-wider k (get_or m.edges j d).to)))) in
      step-wider (is_goal narrow s) (is_dead narrow s) (is_goal wide s) (is_dead wide s) (D ^ suc k) _ _ (rises s)
      (falls s) (omega (arith, each))
      (numerator_of-most narrow (choices_of game) chosen (suc k) s)

  near-on : (m v d n n' : ℕ) → n ≤ n' → m * v * d ≤ unit * (m * n + d) → m * v * d ≤ unit * (m * n' + d)
  near-on m v d n n' more near = omega (arith, near, mul-le-mul_left unit (mul-le-mul_left m more))

  -- so bounds from below stay so with more goals, and bounds from above with fewer
  pub IsNear-wider : (table : ℕ → ℕ) → IsNear narrow table → IsNear wide table
  IsNear-wider table near = λ m some.
      let at = near m some in (
        at.0,
        λ s inside. near-on m (table s) (denominator game ^ at.0) (numerator narrow at.0 s) (numerator wide at.0 s)
            (numerator-wider at.0 s) (at.1 s inside),
      )

  pub IsHigh-narrower : (table : ℕ → ℕ) → IsHigh wide table → IsHigh narrow table
  IsHigh-narrower table high = λ k s inside. omega (arith, mul-le-mul_left unit (numerator-wider k s), high k s inside)

-- 3. The next state.

term-wider : (here there : Bool) (weight : ℕ) → (here ≡ true → there ≡ true)
    → (if here then weight else 0) ≤ (if there then weight else 0)
term-wider true true weight more = let at : weight ≤ weight = omega arith in at
term-wider true false weight more = let no : false ≡ true = more refl in absurd (cc)
term-wider false there weight more = let at : 0 ≤ (if there then weight else 0) = omega arith in at

terms-wider : (n : ℕ) (here there : ℕ → Bool) (edges : List Edge) → ((s : ℕ) → s < n → here s ≡ true → there s ≡ true)
    → All (λ e. e.to < n) edges → 1 * sum_by (λ e. if here e.to then e.weight else 0) edges
    ≤ 1 * sum_by (λ e. if there e.to then e.weight else 0) edges
terms-wider n here there [] more inside = omega arith
terms-wider n here there (e ∷ es) more inside =
    rw (
      sum_by-cons (λ (d : Edge). if here d.to then d.weight else 0) e es,
      sum_by-cons (λ (d : Edge). if there d.to then d.weight else 0) e es,
    )
    (omega (
      arith,
      term-wider (here e.to) (there e.to) e.weight (more e.to (All-head (λ (d : Edge). d.to < n) e es inside)),
      terms-wider n here there es more (All-tail (λ (d : Edge). d.to < n) e es inside),
    ))

-- the more states are hoped for, the likelier one of them is next
pub next_numerator-wider : (q : Query) (here there : ℕ → Bool) → AreChoicesOf q.game (choices_of q.game)
    → ((s : ℕ) → s < length q.game → here s ≡ true → there s ≡ true) → (s : ℕ)
    → next_numerator q here s ≤ next_numerator q there s
next_numerator-wider q here there chosen more s =
    let D : ℕ = denominator q.game in
    let each : 1 * next_numerator q here s ≤ 1 * next_numerator q there s =
    optimum-le (side_at q s) _ _ 1 1 (choices_of q.game s)
    (λ i d l.
    let m : Distribution = get_or (choices_of q.game s) i d in
    let fits : IsChoiceOf q.game m = chosen.each s i d l in
    scaled-le (D / m.total) _ _ (terms-wider (length q.game) here there m.edges more fits.inside)) in
    omega (arith, each)
