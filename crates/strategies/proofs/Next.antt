-- The best choice for the next state.
use Rattle.std.proofs.Common.{◌≡◌, ℕ, ◌<◌, ◌≤◌, Bool, [], arith, refl}
use Rattle.std.specs.Bool.{if◌then◌else◌}
use Rattle.game_model.specs.declared.game.Side.{Side}
use Rattle.game_model.specs.declared.game.Side.TheVariants.{Max, Min}
use Rattle.game_model.specs.Game.{choices_of, choice_of, no_distribution}
use Rattle.game_model.specs.Query.{Query, IsQuery, states, side_at}
use Rattle.game_model.specs.Values.{optimum}
use Rattle.game_model.proofs.Best.{optimum-each, optimum-below}
use Rattle.strategies.specs.Strategies.{Strategy, IsStrategyOf, of_side, worth}
use Rattle.strategies.specs.Next.{AreBestNext}
use Rattle.strategies.proofs.Turns.{faces-least, faces-most}
use Rattle.strategies.proofs.Best.{optimum-some}
use Rattle.strategies.proofs.Ways.{next-ways}

module _ (q : Query) (posed : IsQuery q) (holds : ℕ → Bool) where
  -- 1 at these states
  abbrev mark : ℕ → ℕ
  mark t = if holds t then 1 else 0

  abbrev best_at : Side → ℕ → ℕ
  best_at side s = (optimum-some side (worth q mark) no_distribution (choices_of q.game s)).0

  best_for : Side → Strategy
  best_for side = λ past s throw. best_at side s

  best_for-inside : (side : Side) → IsStrategyOf q side (best_for side)
  unfolding best_for
  best_for-inside side past s throw inside is =
      ((optimum-some side (worth q mark) no_distribution (choices_of q.game s)).1 (posed.game.chosen s inside)).0

  best_for-worth : (side : Side) (s throw : ℕ) → s < states q
      → worth q mark (choice_of q.game s (best_for side [] s throw)) ≡ optimum side (worth q mark) (choices_of q.game s)
  unfolding best_for
  best_for-worth side s throw inside =
      ((optimum-some side (worth q mark) no_distribution (choices_of q.game s)).1 (posed.game.chosen s inside)).1

  least-turn : (opponent : Strategy) → IsStrategyOf q Min opponent → (s throw : ℕ) → s < states q
      → (side : Side) → side_at q s ≡ side → optimum side (worth q mark) (choices_of q.game s)
      ≤ worth q mark (choice_of q.game s (of_side side (best_for Max) opponent [] s throw))
  least-turn opponent down s throw inside Max is = omega (arith, best_for-worth Max s throw inside)
  least-turn opponent down s throw inside Min is = optimum-below (worth q mark) (choices_of q.game s)
      (opponent [] s throw) no_distribution (down [] s throw inside is)

  most-turn : (opponent : Strategy) → IsStrategyOf q Max opponent → (s throw : ℕ) → s < states q → (side : Side)
      → side_at q s ≡ side → worth q mark (choice_of q.game s (of_side side opponent (best_for Min) [] s throw))
      ≤ optimum side (worth q mark) (choices_of q.game s)
  most-turn opponent up s throw inside Max is =
      optimum-each (worth q mark) (choices_of q.game s) (opponent [] s throw) no_distribution (up [] s throw inside is)
  most-turn opponent up s throw inside Min is = omega (arith, best_for-worth Min s throw inside)

  pub best-next : AreBestNext q holds (λ s. optimum (side_at q s) (worth q mark) (choices_of q.game s))
  best-next = record {
    greatest = best_for Max;
    is_greatest = best_for-inside Max;
    assured = λ faces s opponent down inside.
        rw (next-ways q posed faces (best_for Max) opponent (best_for-inside Max) down holds s inside)
        (faces-least
        (λ throw. worth q mark (choice_of q.game s (of_side (side_at q s) (best_for Max) opponent [] s throw)))
        (optimum (side_at q s) (worth q mark) (choices_of q.game s)) faces
        (λ throw. least-turn opponent down s throw inside (side_at q s) refl));
    least = best_for Min;
    is_least = best_for-inside Min;
    held = λ faces s opponent up inside.
        rw (next-ways q posed faces opponent (best_for Min) up (best_for-inside Min) holds s inside)
        (faces-most
        (λ throw. worth q mark (choice_of q.game s (of_side (side_at q s) opponent (best_for Min) [] s throw)))
        (optimum (side_at q s) (worth q mark) (choices_of q.game s)) faces
        (λ throw. most-turn opponent up s throw inside (side_at q s) refl));
  }
