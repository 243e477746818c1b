-- The strategy that takes, with so many steps left, a choice that is worth the optimum.
use Rattle.std.proofs.Common.{◌≡◌, ℕ, suc, ◌+◌, ◌-◌, ◌*◌, ◌^◌, ◌<◌, ◌≤◌, List, [], ◌∷◌, length, fold, get_or, arith}
use Rattle.std.proofs.Common.{refl, sym, ◌∙◌, subst, inl, inr, ◌⊎◌}
use Rattle.game_model.specs.declared.game.Side.{Side}
use Rattle.game_model.specs.declared.game.Side.TheVariants.{Max, Min}
use Rattle.game_model.specs.Game.{choices_of, choice_of, no_distribution}
use Rattle.game_model.specs.Query.{Query, IsQuery, states, side_at}
use Rattle.game_model.specs.Values.{better, optimum, numerator}
use Rattle.game_model.proofs.Best.{max-cases, min-cases, optimum-each, optimum-below}
use Rattle.strategies.specs.Strategies.{Turn, Strategy, IsStrategyOf, of_side, worth, reach, AreBest}
use Rattle.strategies.proofs.Bounds.{reach-least, reach-most}

better-cases : (side : Side) (x y : ℕ) → (better side x y ≡ x) ⊎ (better side x y ≡ y)
better-cases Max x y = max-cases x y
better-cases Min x y = min-cases x y

-- an element that has the optimum of a list and a start, or the start has it
fold-some : {X : Type 0} (side : Side) (f : X → ℕ) (d : X) (x : ℕ) (xs : List X)
    → (fold (λ best y. better side best (f y)) x xs ≡ x)
    ⊎ ((i : ℕ) × (i < length xs) × (f (get_or xs i d) ≡ fold (λ best y. better side best (f y)) x xs))
fold-some side f d x [] = inl refl
fold-some side f d x (y ∷ ys) = elim (fold-some side f d (better side x (f y)) ys) [
  | inl start ↦ elim (better-cases side x (f y)) [
    | inl old ↦ inl (start ∙ old)
    | inr new ↦ inr (0, omega arith, sym (start ∙ new))
  ]
  | inr later ↦ inr (suc later.0, omega (arith, later.1), later.2)
]

-- the place of an element that has the optimum
pub optimum-some : {X : Type 0} (side : Side) (f : X → ℕ) (d : X) (xs : List X)
    → (i : ℕ) × (0 < length xs → (i < length xs) × (f (get_or xs i d) ≡ optimum side f xs))
optimum-some side f d [] = (0, λ some. absurd (omega (arith, some)))
optimum-some side f d (x ∷ xs) = elim (fold-some side f d (f x) xs) [
  | inl start ↦ (0, λ some. (omega arith, sym start))
  | inr later ↦ (suc later.0, λ some. (omega (arith, later.1), later.2))
]

-- the choice that is worth the optimum with k steps left behind this one
pub best_choice : (q : Query) (side : Side) (k s : ℕ)
    → (c : ℕ) × (0 < length (choices_of q.game s) → (c < length (choices_of q.game s))
    × (worth q (numerator q k) (choice_of q.game s c) ≡ optimum side (worth q (numerator q k)) (choices_of q.game s)))
best_choice q side k s = optimum-some side (worth q (numerator q k)) no_distribution (choices_of q.game s)

-- the best strategy over so many steps
pub best_of : Query → Side → ℕ → Strategy
best_of q side horizon = λ past s throw. (best_choice q side (horizon - 1 - length past) s).0

module _ (q : Query) (posed : IsQuery q) (side : Side) (horizon : ℕ) where
  pub best_of-inside : IsStrategyOf q side (best_of q side horizon)
  unfolding best_of
  best_of-inside past s throw inside is =
      ((best_choice q side (horizon - 1 - length past) s).1 (posed.game.chosen s inside)).0

  pub best_of-worth : (k : ℕ) (past : List Turn) (s throw : ℕ) → suc k + length past ≡ horizon
      → s < states q → worth q (numerator q k) (choice_of q.game s (best_of q side horizon past s throw))
      ≡ optimum side (worth q (numerator q k)) (choices_of q.game s)
  unfolding best_of
  best_of-worth k past s throw left inside =
      let same : k ≡ horizon - 1 - length past = omega (arith, left) in
      subst (λ j. worth q (numerator q k) (choice_of q.game s (best_choice q side j s).0)
      ≡ optimum side (worth q (numerator q k)) (choices_of q.game s)) same
      ((best_choice q side k s).1 (posed.game.chosen s inside)).1

-- a choice that the maximiser takes at its best, or any of the minimiser
least-each : (q : Query) (posed : IsQuery q) (horizon k : ℕ) (past : List Turn) (s throw : ℕ) (opponent : Strategy)
    → IsStrategyOf q Min opponent → suc k + length past ≡ horizon → s < states q → (side : Side)
    → side_at q s ≡ side → optimum side (worth q (numerator q k)) (choices_of q.game s)
    ≤ worth q (numerator q k) (choice_of q.game s (of_side side (best_of q Max horizon) opponent past s throw))
least-each q posed horizon k past s throw opponent down left inside Max is =
    omega (arith, best_of-worth q posed Max horizon k past s throw left inside)
least-each q posed horizon k past s throw opponent down left inside Min is = optimum-below (worth q (numerator q k))
    (choices_of q.game s) (opponent past s throw) no_distribution (down past s throw inside is)

most-each : (q : Query) (posed : IsQuery q) (horizon k : ℕ) (past : List Turn) (s throw : ℕ) (opponent : Strategy)
    → IsStrategyOf q Max opponent → suc k + length past ≡ horizon → s < states q → (side : Side) → side_at q s ≡ side
    → worth q (numerator q k) (choice_of q.game s (of_side side opponent (best_of q Min horizon) past s throw))
    ≤ optimum side (worth q (numerator q k)) (choices_of q.game s)
most-each q posed horizon k past s throw opponent up left inside Max is = optimum-each (worth q (numerator q k))
    (choices_of q.game s) (opponent past s throw) no_distribution (up past s throw inside is)
most-each q posed horizon k past s throw opponent up left inside Min is =
    omega (arith, best_of-worth q posed Min horizon k past s throw left inside)

module _ (q : Query) (posed : IsQuery q) (horizon faces : ℕ) (opponent : Strategy) where
  abbrev Left : ℕ → List Turn → Type 0
  Left k past = k + length past ≡ horizon

  onward : (k : ℕ) (past : List Turn) (turn : Turn) → Left (suc k) past → Left k (turn ∷ past)
  onward k past turn left = omega (arith, left)

  -- with its best strategy the maximiser reaches the value against every strategy
  pub best-least : IsStrategyOf q Min opponent → (s : ℕ) → s < states q
      → faces ^ horizon * numerator q horizon s ≤ reach q faces (best_of q Max horizon) opponent horizon [] s
  best-least down s inside =
      let all : faces ^ horizon * numerator q horizon s
      ≤ 1 * reach q faces (best_of q Max horizon) opponent horizon [] s =
      reach-least q posed (choices_of q.game) faces (best_of q Max horizon) opponent
      (best_of-inside q posed Max horizon) down Left onward
      (λ k past t throw left within. least-each q posed horizon k past t throw opponent down left within
      (side_at q t) refl) horizon [] s (omega arith) inside in
      omega (arith, all)

  -- with its best strategy the minimiser holds every strategy to the value
  pub best-most : IsStrategyOf q Max opponent → (s : ℕ) → s < states q
      → reach q faces opponent (best_of q Min horizon) horizon [] s ≤ faces ^ horizon * numerator q horizon s
  best-most up s inside =
      let all : 1 * reach q faces opponent (best_of q Min horizon) horizon [] s
      ≤ faces ^ horizon * numerator q horizon s =
      reach-most q posed (choices_of q.game) faces opponent (best_of q Min horizon) up
      (best_of-inside q posed Min horizon) Left onward
      (λ k past t throw left within. most-each q posed horizon k past t throw opponent up left within
      (side_at q t) refl) horizon [] s (omega arith) inside in
      omega (arith, all)

pub best : (q : Query) (k : ℕ) → IsQuery q → AreBest q k
best q k posed = record {
  greatest = best_of q Max k;
  is_greatest = best_of-inside q posed Max k;
  assured = λ faces s opponent down inside. best-least q posed k faces opponent down s inside;
  least = best_of q Min k;
  is_least = best_of-inside q posed Min k;
  held = λ faces s opponent up inside. best-most q posed k faces opponent up s inside;
}
