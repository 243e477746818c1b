-- What is reached where the sides are exchanged.
use Rattle.std.proofs.Common.{◌≡◌, ℕ, zero, suc, ◌+◌, ◌*◌, ◌^◌, ◌<◌, ◌≤◌, Bool, true, List, [], ◌∷◌}
use Rattle.std.proofs.Common.{arith, refl, sym, ◌∙◌, ap, subst, Option}
use Rattle.std.specs.Bool.{if◌then◌else◌}
use Rattle.std.specs.List.{range_with_len}
use Rattle.std.proofs.Math.Nat.{le_of_mul-le-mul_left}
use Rattle.std.proofs.lemmas.List.{get_or-map, length-map}
use Rattle.game_model.specs.declared.game.Side.{Side}
use Rattle.game_model.specs.declared.game.Side.TheVariants.{Max, Min}
use Rattle.game_model.specs.Game.{choice_of}
use Rattle.game_model.specs.Limits.{unit}
use Rattle.game_model.specs.Query.{Query, IsQuery, states, is_goal, is_dead, side_at}
use Rattle.game_model.specs.Values.{denominator}
use Rattle.game_model.specs.Dual.{other_side}
use Rattle.game_model.proofs.Choices.{IsChoiceOf-choice_of}
use Rattle.strategies.specs.Strategies.{Turn, Strategy, IsStrategyOf, of_side, worth, reach, by_plan, ReachesAgainstAll}
use Rattle.strategies.proofs.Plans.{by_plan-inside}
use Rattle.strategies.proofs.Sums.{sum-same}
use Rattle.strategies.proofs.Ways.{worth-same}
use Rattle.strategies.proofs.Turns.{of_side-inside}
use Rattle.expected_rewards.specs.Turned.{turned}
use Rattle.expected_rewards.specs.Tables.{is_finite}
use Rattle.expected_rewards.specs.Promises.{EndsSurely}

pub turned-posed : (q : Query) → IsQuery q → IsQuery (turned q)
turned-posed q posed = record {
  game = posed.game;
  sides = length-map q.sides other_side ∙ posed.sides;
  goals = posed.goals;
  deads = posed.deads;
  apart = posed.apart;
}

pub turned-side : (q : Query) → IsQuery q → (s : ℕ) → s < states q → side_at (turned q) s ≡ other_side (side_at q s)
turned-side q posed s inside = get_or-map other_side q.sides s Max Max (omega (arith, inside, posed.sides))

pub other-min : (side : Side) → other_side side ≡ Min → side ≡ Max
other-min Max is = refl
other-min Min is = absurd (cc)

pub other-max : (side : Side) → other_side side ≡ Max → side ≡ Min
other-max Max is = absurd (cc)
other-max Min is = refl

-- a strategy of one side is one of the other there
pub turned-max : (q : Query) → IsQuery q → (strategy : Strategy) → IsStrategyOf q Max strategy
    → IsStrategyOf (turned q) Min strategy
turned-max q posed strategy up past s throw inside is =
    up past s throw inside (other-min (side_at q s) (sym (turned-side q posed s inside) ∙ is))

of-other : (side : Side) (a b : Strategy) (past : List Turn) (s throw : ℕ)
    → of_side (other_side side) a b past s throw ≡ of_side side b a past s throw
of-other Max a b past s throw = refl
of-other Min a b past s throw = refl

module _ (q : Query) (posed : IsQuery q) (faces : ℕ) (greatest least : Strategy) (up : IsStrategyOf q Max greatest)
    (down : IsStrategyOf q Min least) where
  turned-choice : (past : List Turn) (s throw : ℕ) → s < states q
      → of_side (side_at (turned q) s) least greatest past s throw
      ≡ of_side (side_at q s) greatest least past s throw
  turned-choice past s throw inside =
      ap (λ side. of_side side least greatest past s throw) (turned-side q posed s inside)
      ∙ of-other (side_at q s) least greatest past s throw

  pub turned-reach : (k : ℕ) (past : List Turn) (s : ℕ) → s < states q
      → reach (turned q) faces least greatest k past s ≡ reach q faces greatest least k past s
  unfolding reach
  turned-reach zero past s inside = refl
  turned-reach (suc k) past s inside =
      ap (λ x. if is_goal q s then (faces * denominator q.game) ^ suc k else (if is_dead q s then 0 else x))
      (sum-same _ _ (range_with_len 0 faces) (λ throw.
      ap (λ c. worth q (reach (turned q) faces least greatest k
      (record { state = s; throw = throw; choice = c } ∷ past)) (choice_of q.game s c))
      (turned-choice past s throw inside)
      ∙ worth-same q (reach (turned q) faces least greatest k
      (record { state = s; throw = throw; choice = of_side (side_at q s) greatest least past s throw } ∷ past))
      (reach q faces greatest least k
      (record { state = s; throw = throw; choice = of_side (side_at q s) greatest least past s throw } ∷ past))
      (choice_of q.game s (of_side (side_at q s) greatest least past s throw))
      (IsChoiceOf-choice_of q.game s _ posed.game inside
      (of_side-inside q greatest least up down past s throw inside (side_at q s) refl))
      (λ t within. turned-reach k
      (record { state = s; throw = throw; choice = of_side (side_at q s) greatest least past s throw } ∷ past)
      t within)))

surely-factors : (u t m p r r' : ℕ) → 0 < u → t ≡ u → r ≡ r' → m * t * p ≤ u * (m * r + p) → m * p ≤ m * r' + p
surely-factors u t m p r r' some whole same h =
    let one : m * u * p ≤ u * (m * r + p) = subst (λ x. m * x * p ≤ u * (m * r + p)) whole h in
    let two : m * u * p ≤ u * (m * r' + p) = subst (λ x. m * u * p ≤ u * (m * x + p)) same one in
    le_of_mul-le-mul_left {k = u} (omega (arith, two)) some

-- a plan that reaches 1 where the sides are exchanged ends plays surely
pub ends : (q : Query) (finite : List Bool) (plan : List (Option ℕ)) (table : ℕ → ℕ) → IsQuery q
    → ReachesAgainstAll (turned q) plan table
    → ((s : ℕ) → s < states q → is_finite finite s ≡ true → table s ≡ unit)
    → EndsSurely q finite plan
ends q finite plan table posed reached whole m some =
    let at = reached m some in (
      at.0,
      λ faces s opponent up inside fin.
          let same : reach (turned q) faces (by_plan q plan) opponent at.0 [] s
          ≡ reach q faces opponent (by_plan q plan) at.0 [] s =
          turned-reach q posed faces opponent (by_plan q plan) up
          (by_plan-inside q posed Min plan) at.0 [] s inside in
          surely-factors unit (table s) m ((faces * denominator q.game) ^ at.0)
          (reach (turned q) faces (by_plan q plan) opponent at.0 [] s)
          (reach q faces opponent (by_plan q plan) at.0 [] s) (omega arith) (whole s inside fin) same
          (at.1 faces s opponent (turned-max q posed opponent up) inside),
    )
