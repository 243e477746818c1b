-- However both play, a play is over as often as what is undecided leaves.
use Rattle.std.proofs.Common.{map, ◌≡◌, ℕ, zero, suc, ◌+◌, ◌*◌, ◌^◌, ◌<◌, ◌≤◌, Bool, true, false, List, [], ◌∷◌, length}
use Rattle.std.proofs.Common.{sum_by, arith, refl, ap}
use Rattle.std.specs.Prelude.{slice_index_or}
use Rattle.std.specs.List.{range_with_len}
use Rattle.std.specs.Bool.{if◌then◌else◌}
use Rattle.std.proofs.Math.Nat.{mul-le-mul_left, pow-suc, pow-zero}
use Rattle.std.proofs.lemmas.List.FromFn.{length-range_with_len, length-map-range_with_len, get_or-map-range_with_len}
use Rattle.std.proofs.lemmas.List.Sums.{sum_by-cons}
use Rattle.game_model.specs.declared.game.Side.TheVariants.{Max, Min}
use Rattle.game_model.specs.Game.{Distribution, choices_of, choice_of, no_distribution}
use Rattle.game_model.specs.Query.{Query, IsQuery, states, is_goal, is_dead, side_at}
use Rattle.game_model.specs.Values.{optimum, denominator}
use Rattle.game_model.proofs.Best.{optimum-each}
use Rattle.game_model.proofs.Choices.{IsChoiceOf, IsChoiceOf-choice_of}
use Rattle.strategies.specs.Strategies.{Turn, Strategy, IsStrategyOf, of_side, worth, reach}
use Rattle.strategies.specs.Stopping.{is_over, undecided, ending}
use Rattle.strategies.proofs.Turns.{worth-le, of_side-inside}
use Rattle.strategies.proofs.Ways.{worth-constant}
use Rattle.strategies.proofs.Stopping.{worth-sum}

sums-plus : (f : ℕ → ℕ) (c b : ℕ) (xs : List ℕ) → ((x : ℕ) → c ≤ f x + b) → length xs * c ≤ sum_by f xs + length xs * b
sums-plus f c b [] h = omega arith
sums-plus f c b (x ∷ xs) h = rw (sum_by-cons f x xs) (omega (arith, sums-plus f c b xs h, h x))

opens : (goal over : Bool) (p r : ℕ) → goal ≡ over → p ≡ 1 → r ≡ 1
    → p ≤ (if goal then 1 else 0) + r * (if over then 0 else 1)
opens true true p r same one two = let at : p ≤ 1 + r * 0 = omega (arith, one) in at
opens true false p r same one two = absurd (cc)
opens false true p r same one two = absurd (cc)
opens false false p r same one two = let at : p ≤ 0 + r * 1 = omega (arith, one, two) in at

turns : (goal over dead : Bool) (p r x y : ℕ) → goal ≡ over → dead ≡ false → p ≤ x + r * y
    → p ≤ (if goal then p else (if dead then 0 else x)) + r * (if over then 0 else y)
turns true over dead p r x y same alive h = let at : (z : ℕ) → p ≤ p + r * z = λ z. omega arith in at _
turns false true dead p r x y same alive h = absurd (cc)
turns false false true p r x y same alive h = absurd (cc)
turns false false false p r x y same alive h = h

module _ (q : Query) (posed : IsQuery q) (lost : List Bool) (faces : ℕ) (greatest least : Strategy)
    (up : IsStrategyOf q Max greatest) (down : IsStrategyOf q Min least) where
  over-at : (s : ℕ) → s < states q → is_goal (ending q lost) s ≡ is_over q lost s
  over-at s inside = get_or-map-range_with_len (is_over q lost) 0 (states q) s s false inside (omega arith)

  none-dead : (s : ℕ) → s < states q → is_dead (ending q lost) s ≡ false
  none-dead s inside = get_or-map-range_with_len (λ s. false) 0 (states q) s s false inside (omega arith)

  pub ended : (k : ℕ) (past : List Turn) (s : ℕ) → s < states q → (faces * denominator q.game) ^ k
      ≤ reach (ending q lost) faces greatest least k past s + faces ^ k * undecided q lost k s
  unfolding reach undecided
  ended zero past s inside = opens (is_goal (ending q lost) s) (is_over q lost s) ((faces * denominator q.game) ^ 0)
      (faces ^ 0) (over-at s inside) (pow-zero (faces * denominator q.game)) (pow-zero faces)
  ended (suc k) past s inside =
      let P : ℕ = (faces * denominator q.game) ^ k in
      let best : ℕ = optimum Max (worth q (undecided q lost k)) (choices_of q.game s) in
      let each : (throw : ℕ) → denominator q.game * (faces * denominator q.game) ^ k
      ≤ worth q (reach (ending q lost) faces greatest least k
      (record { state = s; throw = throw; choice = of_side (side_at q s) greatest least past s throw } ∷ past))
      (choice_of q.game s (of_side (side_at q s) greatest least past s throw)) + faces ^ k * best =
      λ throw.
      let c : ℕ = of_side (side_at q s) greatest least past s throw in
      let turn : Turn =
      record { state = s; throw = throw; choice = of_side (side_at q s) greatest least past s throw } in
      let m : Distribution = choice_of q.game s (of_side (side_at q s) greatest least past s throw) in
      let exists : of_side (side_at q s) greatest least past s throw < length (choices_of q.game s) =
      of_side-inside q greatest least up down past s throw inside (side_at q s) refl in
      let fits : IsChoiceOf q.game m = IsChoiceOf-choice_of q.game s _ posed.game inside exists in
      let sums : worth q (λ t. (faces * denominator q.game) ^ k) m
      ≤ worth q (reach (ending q lost) faces greatest least k (turn ∷ past)) m
      + worth q (λ t. faces ^ k * undecided q lost k t) m =
      worth-sum q (λ t. (faces * denominator q.game) ^ k) (reach (ending q lost) faces greatest least k (turn ∷ past))
      (λ t. faces ^ k * undecided q lost k t) m fits (ended k (turn ∷ past)) in
      let left : 1 * worth q (λ t. faces ^ k * undecided q lost k t) m ≤ faces ^ k * worth q (undecided q lost k) m =
      worth-le q (λ t. faces ^ k * undecided q lost k t) (undecided q lost k) 1 (faces ^ k) m fits
      (λ t there. omega arith) in
      let most : faces ^ k * worth q (undecided q lost k) m ≤ faces ^ k * best =
      mul-le-mul_left (faces ^ k) (optimum-each (worth q (undecided q lost k)) (choices_of q.game s)
      (of_side (side_at q s) greatest least past s throw) no_distribution exists) in
      omega (arith, sums, worth-constant q ((faces * denominator q.game) ^ k) m fits, left, most) in
      let all : length (range_with_len 0 faces) * (denominator q.game * (faces * denominator q.game) ^ k)
      ≤ sum_by (λ throw. worth q (reach (ending q lost) faces greatest least k
      (record { state = s; throw = throw; choice = of_side (side_at q s) greatest least past s throw } ∷ past))
      (choice_of q.game s (of_side (side_at q s) greatest least past s throw))) (range_with_len 0 faces) + length
      (range_with_len 0 faces) * (faces ^ k * best) =
      sums-plus _ (denominator q.game * (faces * denominator q.game) ^ k) (faces ^ k * best)
      (range_with_len 0 faces) each in
      let one : length (range_with_len 0 faces) * (denominator q.game * (faces * denominator q.game) ^ k)
      ≡ faces * (denominator q.game * (faces * denominator q.game) ^ k) =
      ap (λ n. n * (denominator q.game * (faces * denominator q.game) ^ k)) (length-range_with_len 0 faces) in
      let two : length (range_with_len 0 faces) * (faces ^ k * best) ≡ faces * (faces ^ k * best) =
      ap (λ n. n * (faces ^ k * best)) (length-range_with_len 0 faces) in
      turns (is_goal (ending q lost) s) (is_over q lost s) (is_dead (ending q lost) s)
      ((faces * denominator q.game) ^ suc k) (faces ^ suc k) _ best (over-at s inside) (none-dead s inside)
      (rw (pow-suc (faces * denominator q.game) k, pow-suc faces k) (omega (arith, all, one, two)))

-- and it is a question
pub ending-posed : (q : Query) (lost : List Bool) → IsQuery q → IsQuery (ending q lost)
ending-posed q lost posed = record {
  game = posed.game;
  sides = posed.sides;
  goals = length-map-range_with_len (is_over q lost) 0 (states q);
  deads = length-map-range_with_len (λ s. false) 0 (states q);
  apart = λ s goal. all-false (range_with_len 0 (states q)) s;
}
  where
    all-false : (xs : List ℕ) (s : ℕ) → slice_index_or (map (λ x. false) xs) s false ≡ false
    all-false [] s = refl
    all-false (x ∷ xs) zero = refl
    all-false (x ∷ xs) (suc s) = all-false xs s
