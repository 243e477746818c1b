-- Exact values from the opening table of iteration, and from the units of the states to come to next.
use Rattle.std.proofs.Common.{◌≡◌, ℕ, zero, suc, ◌*◌, ◌/◌, ◌^◌, ◌<◌, ◌≤◌, Bool, true, false, List, [], ◌∷◌, arith, ap}
use Rattle.std.proofs.Common.{◌∙◌, refl, get_or, sum_by}
use Rattle.std.specs.List.{All}
use Rattle.std.specs.Bool.{if◌then◌else◌}
use Rattle.std.proofs.lemmas.List.Elements.{All-head, All-tail}
use Rattle.std.proofs.lemmas.List.Sums.{sum_by-cons}
use Rattle.game_model.specs.declared.game.Edge.{Edge}
use Rattle.game_model.specs.declared.game.Side.{Side}
use Rattle.game_model.specs.Game.{Distribution, choices_of}
use Rattle.game_model.specs.Query.{Query, IsQuery, states, is_goal, is_dead, side_at}
use Rattle.game_model.specs.Values.{optimum, weighted_sum, bellman, denominator, numerator_of, numerator}
use Rattle.game_model.specs.Limits.{unit}
use Rattle.game_model.specs.Rounded.{down_steps, opening}
use Rattle.game_model.proofs.Choices.{IsChoiceOf, AreChoicesOf, AreChoicesOf-choices_of}
use Rattle.game_model.proofs.Best.{optimum-le}
use Rattle.bounded_rounds.specs.Steps.{steps_from, down_from}
use Rattle.bounded_rounds.specs.Exact.{exact_from, next_numerator, IsNext}
use Rattle.bounded_rounds.proofs.Stepping.{step_of-same}

-- a sum whose terms are multiples of others
weighted_sum-scaled : (v : ℕ → ℕ) (c : ℕ) (term : Edge → ℕ) (edges : List Edge)
    → All (λ e. e.weight * v e.to ≡ c * term e) edges → weighted_sum v edges ≡ c * sum_by term edges
weighted_sum-scaled v c term [] h = omega arith
weighted_sum-scaled v c term (e ∷ es) h =
    rw (sum_by-cons (λ (d : Edge). d.weight * v d.to) e es, sum_by-cons term e es)
    (omega (
      arith,
      All-head (λ (d : Edge). d.weight * v d.to ≡ c * term d) e es h,
      weighted_sum-scaled v c term es (All-tail (λ (d : Edge). d.weight * v d.to ≡ c * term d) e es h),
    ))

-- the optimum of multiples
optimum-scaled : {X : Type 0} (side : Side) (f g : X → ℕ) (c : ℕ) (xs : List X) → All (λ y. f y ≡ c * g y) xs
    → optimum side f xs ≡ c * optimum side g xs
optimum-scaled side f g c xs each =
    let most : 1 * optimum side f xs ≤ c * optimum side g xs =
    optimum-le side f g 1 c xs (λ i d l. omega (arith, each i d l)) in
    let least : c * optimum side g xs ≤ 1 * optimum side f xs =
    optimum-le side g f c 1 xs (λ i d l. omega (arith, each i d l)) in
    omega arith

-- one step from multiples
bellman-scaled : (q : Query) (choices : ℕ → List Distribution) (c top : ℕ) (f g : Distribution → ℕ) (s : ℕ)
    → All (λ m. f m ≡ c * g m) (choices s) → bellman q choices (c * top) f s ≡ c * bellman q choices top g s
bellman-scaled q choices c top f g s each =
    elim (is_goal q s)
    as (λ goal. (if goal then c * top else (if is_dead q s then 0 else optimum (side_at q s) f (choices s)))
    ≡ c * (if goal then top else (if is_dead q s then 0 else optimum (side_at q s) g (choices s)))) [
      | true ↦ refl
      | false ↦ elim (is_dead q s) as (λ dead. (if dead then 0 else optimum (side_at q s) f (choices s))
          ≡ c * (if dead then 0 else optimum (side_at q s) g (choices s))) [
            | true ↦ omega arith
            | false ↦ optimum-scaled (side_at q s) f g c (choices s) each
          ]
    ]

opening-scaled : (goal : Bool) (u : ℕ) → (if goal then u else 0) ≡ u * (if goal then 1 else 0)
opening-scaled true u = let at : u ≡ u * 1 = omega arith in at
opening-scaled false u = let at : 0 ≡ u * 0 = omega arith in at

factor-out : (r x c y : ℕ) → x ≡ c * y → r * x ≡ c * (r * y)
factor-out r x c y same = omega (arith, ap (λ n. r * n) same)

-- from the opening table of iteration the exact values are the k-step values, in units
pub exact_from-opening : (q : Query) (k s : ℕ) → exact_from q (opening q) k s ≡ unit * numerator q k s
unfolding exact_from numerator_of
exact_from-opening q zero s = opening-scaled (is_goal q s) unit
exact_from-opening q (suc k) s =
    let D : ℕ = denominator q.game in
    bellman-scaled q (choices_of q.game) unit (D ^ suc k) _ (λ m. D / m.total * weighted_sum (numerator q k) m.edges) s
    (λ i d l.
    let m : Distribution = get_or (choices_of q.game s) i d in
    factor-out (D / m.total) (weighted_sum (exact_from q (opening q) k) m.edges) unit
    (weighted_sum (numerator q k) m.edges)
    (weighted_sum-scaled (exact_from q (opening q) k) unit (λ e. e.weight * numerator q k e.to) m.edges
    (λ p none _.
    let e : Edge = get_or m.edges p none in
    factor-out e.weight (exact_from q (opening q) k e.to) unit (numerator q k e.to) (exact_from-opening q k e.to))))

-- and the down steps are those of iteration
pub down_from-opening : (q : Query) → IsQuery q → (k s : ℕ) → down_from q (opening q) k s ≡ down_steps q k s
unfolding steps_from down_steps
down_from-opening q posed zero s = refl
down_from-opening q posed (suc k) s = step_of-same (λ x w. x / w) q posed (down_from q (opening q) k) (down_steps q k)
    (λ t inside. down_from-opening q posed k t) s

bellman-free : (q : Query) (choices : ℕ → List Distribution) (top : ℕ) (f : Distribution → ℕ) (s : ℕ)
    → is_goal q s ≡ false → is_dead q s ≡ false → bellman q choices top f s ≡ optimum (side_at q s) f (choices s)
bellman-free q choices top f s goal dead = rw (goal, dead) refl

marked-weight : (hold : Bool) (weight u : ℕ) → weight * (if hold then u else 0) ≡ u * (if hold then weight else 0)
marked-weight true weight u = let at : weight * u ≡ u * weight = omega arith in at
marked-weight false weight u = let at : weight * 0 ≡ u * 0 = omega arith in at

-- from the units of some states the exact value of one step is the probability that one of them is next, in units
pub exact_from-next : (q : Query) (opens : ℕ → ℕ) (holds : ℕ → Bool) → IsQuery q → IsNext q opens holds → (s : ℕ)
    → s < states q → exact_from q opens 1 s ≡ unit * next_numerator q holds s
unfolding exact_from
exact_from-next q opens holds posed next s inside =
    let D : ℕ = denominator q.game in
    let chosen : AreChoicesOf q.game (choices_of q.game) = AreChoicesOf-choices_of q.game posed.game in
    bellman-free q (choices_of q.game) (unit * D ^ 1) (λ m. D / m.total * weighted_sum opens m.edges) s
    (next.goals s inside) (next.deads s inside)
    ∙ optimum-scaled (side_at q s) (λ m. D / m.total * weighted_sum opens m.edges)
    (λ m. D / m.total * sum_by (λ e. if holds e.to then e.weight else 0) m.edges) unit (choices_of q.game s)
    (λ i d l.
    let m : Distribution = get_or (choices_of q.game s) i d in
    let fits : IsChoiceOf q.game m = chosen.each s i d l in
    factor-out (D / m.total) (weighted_sum opens m.edges) unit
    (sum_by (λ e. if holds e.to then e.weight else 0) m.edges)
    (weighted_sum-scaled opens unit (λ e. if holds e.to then e.weight else 0) m.edges
    (λ p none within.
    let e : Edge = get_or m.edges p none in
    ap (λ x. e.weight * x) (next.opens e.to (fits.inside p none within)) ∙ marked-weight (holds e.to) e.weight unit)))
