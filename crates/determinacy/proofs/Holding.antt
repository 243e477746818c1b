-- What the minimiser holds with exact values.
use Rattle.std.proofs.Common.{◌≡◌, ℕ, zero, suc, ◌*◌, ◌/◌, ◌^◌, ◌<◌, ◌≤◌, Bool, true, false, List, [], ◌∷◌, length}
use Rattle.std.proofs.Common.{sum_by, arith, refl, sym, ap, subst}
use Rattle.std.specs.List.{range_with_len}
use Rattle.std.specs.Bool.{if◌then◌else◌}
use Rattle.std.proofs.lemmas.List.FromFn.{length-range_with_len}
use Rattle.std.proofs.lemmas.List.Sums.{sum_by-cons}
use Rattle.std.proofs.Math.Nat.{mul-le-mul_left, pow-suc, pow-zero}
use Rattle.game_model.specs.declared.game.Side.{Side}
use Rattle.game_model.specs.declared.game.Side.TheVariants.{Max, Min}
use Rattle.game_model.specs.Game.{Distribution, no_distribution, choices_of, choice_of}
use Rattle.game_model.specs.Query.{Query, IsQuery, states, is_goal, is_dead, side_at}
use Rattle.game_model.specs.Values.{weighted_sum, denominator}
use Rattle.game_model.specs.Plans.{planned_place}
use Rattle.game_model.proofs.Choices.{IsChoiceOf, IsChoiceOf-choice_of}
use Rattle.game_laws.proofs.Planned.{planned_place-given}
use Rattle.strategies.specs.Strategies.{Turn, Strategy, IsStrategyOf, of_side, worth, reach, by_plan}
use Rattle.strategies.proofs.Turns.{worth-le, of_side-inside}
use Rattle.strategies.proofs.Plans.{by_plan-inside}
use Rattle.determinacy.specs.Exact.{HasValues}
use Rattle.determinacy.proofs.Descent.{Held}
use Rattle.determinacy.proofs.Arena.{Free, SolvedAt, Exact}
use Rattle.determinacy.proofs.Plans.{exact-of, answering, reply-at, replies, plan, reached}

sums-most : (t : ℕ) (f : ℕ → ℕ) (most : ℕ) (xs : List ℕ) → ((x : ℕ) → t * f x ≤ most)
    → t * sum_by f xs ≤ length xs * most
sums-most t f most [] h = omega arith
sums-most t f most (x ∷ xs) h = rw (sum_by-cons f x xs) (omega (arith, sums-most t f most xs h, h x))

held-share : (d r w v x : ℕ) → r * w ≡ d → x ≤ v * w → r * x ≤ v * d
held-share d r w v x same held = rw (← same) (omega (arith, mul-le-mul_left r held))

turn-held : (t x p y v d : ℕ) → t * x ≤ p * y → y ≤ v * d → t * x ≤ p * (v * d)
turn-held t x p y v d h k = omega (arith, h, mul-le-mul_left p k)

opens : (goal : Bool) (t v p : ℕ) → p ≡ 1 → (goal ≡ true → v ≡ t) → t * (if goal then 1 else 0) ≤ v * p
opens true t v p one h = rw (one, h refl) (omega arith)
opens false t v p one h = let at : t * 0 ≤ v * p = omega arith in at

turns : (goal dead : Bool) (t v p x : ℕ) → (goal ≡ true → v ≡ t) → (goal ≡ false → dead ≡ false → t * x ≤ v * p)
    → t * (if goal then p else (if dead then 0 else x)) ≤ v * p
turns true dead t v p x h k = let at : t * p ≤ v * p = rw (h refl) (omega arith) in at
turns false true t v p x h k = let at : t * 0 ≤ v * p = omega arith in at
turns false false t v p x h k = k refl refl

module _ (q : Query) (posed : IsQuery q) (a : Exact q (choices_of q.game)) where
  worth-held : (s : ℕ) (m : Distribution) → IsChoiceOf q.game m → Held a.value s m
      → worth q a.value m ≤ a.value s * denominator q.game
  worth-held s m fits held = held-share (denominator q.game) (denominator q.game / m.total) m.total (a.value s)
      (weighted_sum a.value m.edges) fits.divides held

  module _ (faces : ℕ) (opponent : Strategy) (up : IsStrategyOf q Max opponent) where
    held-choice : (past : List Turn) (s throw : ℕ) → s < states q → Free q s → (side : Side) → side_at q s ≡ side
        → Held a.value s (choice_of q.game s (of_side side opponent (by_plan q (replies q posed a)) past s throw))
    held-choice past s throw inside free Max is =
        let solved : SolvedAt Max a.value s (choices_of q.game s) =
        subst (λ side. SolvedAt side a.value s (choices_of q.game s)) is (a.solves.solved s inside free) in
        solved.0 (opponent past s throw) no_distribution (up past s throw inside is)
    held-choice past s throw inside free Min is =
        let answer = (answering q posed a s (side_at q s) refl).1 inside free is in
        let place : planned_place (replies q posed a) s (length (choices_of q.game s))
        ≡ (answering q posed a s (side_at q s) refl).0 =
        planned_place-given (replies q posed a) s (length (choices_of q.game s))
        (answering q posed a s (side_at q s) refl).0 (reply-at q posed a s inside) answer.0 in
        subst (λ c. Held a.value s (choice_of q.game s c)) (sym place) answer.1

    hold : (k : ℕ) (past : List Turn) (s : ℕ) → s < states q
        → a.top * reach q faces opponent (by_plan q (replies q posed a)) k past s
        ≤ a.value s * (faces * denominator q.game) ^ k
    unfolding reach
    hold zero past s inside = opens (is_goal q s) a.top (a.value s) ((faces * denominator q.game) ^ 0)
        (pow-zero (faces * denominator q.game)) (a.solves.goals s inside)
    hold (suc k) past s inside =
        let P : ℕ = (faces * denominator q.game) ^ k in
        turns (is_goal q s) (is_dead q s) a.top (a.value s) ((faces * denominator q.game) ^ suc k) _
        (a.solves.goals s inside) (λ other alive.
        let each : (throw : ℕ) → a.top * worth q (reach q faces opponent (by_plan q (replies q posed a)) k (record {
          state = s;
          throw = throw;
          choice = of_side (side_at q s) opponent (by_plan q (replies q posed a)) past s throw;
        } ∷ past)) (choice_of q.game s (of_side (side_at q s) opponent (by_plan q (replies q posed a)) past s throw))
        ≤ (faces * denominator q.game) ^ k * (a.value s * denominator q.game) =
        λ throw.
        let turn : Turn = record {
          state = s;
          throw = throw;
          choice = of_side (side_at q s) opponent (by_plan q (replies q posed a)) past s throw;
        } in
        let m : Distribution =
        choice_of q.game s (of_side (side_at q s) opponent (by_plan q (replies q posed a)) past s throw) in
        let fits : IsChoiceOf q.game m =
        IsChoiceOf-choice_of q.game s _ posed.game inside (of_side-inside q opponent (by_plan q (replies q posed a)) up
        (by_plan-inside q posed Min (replies q posed a)) past s throw inside (side_at q s) refl) in
        turn-held a.top (worth q (reach q faces opponent (by_plan q (replies q posed a)) k (turn ∷ past)) m)
        ((faces * denominator q.game) ^ k) (worth q a.value m) (a.value s) (denominator q.game)
        (worth-le q (reach q faces opponent (by_plan q (replies q posed a)) k (turn ∷ past)) a.value a.top
        ((faces * denominator q.game) ^ k) m fits (λ t within. omega (arith, hold k (turn ∷ past) t within)))
        (worth-held s m fits (held-choice past s throw inside (other, alive) (side_at q s) refl)) in
        let sums : a.top * sum_by (λ throw. worth q (reach q faces opponent (by_plan q (replies q posed a)) k (record {
          state = s;
          throw = throw;
          choice = of_side (side_at q s) opponent (by_plan q (replies q posed a)) past s throw;
        } ∷ past)) (choice_of q.game s (of_side (side_at q s) opponent (by_plan q (replies q posed a)) past s throw)))
        (range_with_len 0 faces)
        ≤ length (range_with_len 0 faces) * ((faces * denominator q.game) ^ k * (a.value s * denominator q.game)) =
        sums-most a.top _ ((faces * denominator q.game) ^ k * (a.value s * denominator q.game))
        (range_with_len 0 faces) each in
        let dice : length (range_with_len 0 faces)
        * ((faces * denominator q.game) ^ k * (a.value s * denominator q.game))
        ≡ faces * ((faces * denominator q.game) ^ k * (a.value s * denominator q.game)) =
        ap (λ n. n * ((faces * denominator q.game) ^ k * (a.value s * denominator q.game)))
        (length-range_with_len 0 faces) in
        rw (pow-suc (faces * denominator q.game) k) (omega (arith, sums, dice)))

  pub values-of : HasValues q
  values-of = record {
    top = a.top;
    positive = a.solves.positive;
    value = a.value;
    plan = plan q posed a;
    reached = reached q posed a;
    replies = replies q posed a;
    held = λ faces k s opponent up inside. hold faces opponent up k [] s inside;
  }

pub questions-have_values : (q : Query) → IsQuery q → HasValues q
questions-have_values q posed = values-of q posed (exact-of q posed)
