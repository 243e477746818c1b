-- Where plays come to an end brackets close.
use Rattle.std.proofs.Common.{◌≡◌, ℕ, zero, suc, ◌+◌, ◌-◌, ◌*◌, ◌/◌, ◌^◌, ◌<◌, ◌≤◌, Bool, true, false, List, [], ◌∷◌}
use Rattle.std.proofs.Common.{get_or, arith, refl, sym, ◌∙◌, ap, subst, inl, inr}
use Rattle.std.specs.Prelude.{slice_index_or, ◌||◌}
use Rattle.std.specs.Bool.{if◌then◌else◌}
use Rattle.std.specs.List.{All}
use Rattle.std.proofs.Math.Nat.{mul-le-mul_left, le_of_mul-le-mul_left, pow-suc, pow-zero, one-le-pow}
use Rattle.std.proofs.lemmas.Nat.{pow-add}
use Rattle.std.proofs.lemmas.List.Elements.{All-head, All-tail}
use Rattle.std.proofs.lemmas.List.Sums.{sum_by-cons}
use Rattle.game_model.specs.declared.game.Edge.{Edge}
use Rattle.game_model.specs.declared.game.Side.TheVariants.{Max}
use Rattle.game_model.specs.Game.{Distribution, choices_of}
use Rattle.game_model.specs.Limits.{unit}
use Rattle.game_model.specs.Query.{Query, IsQuery, states, is_goal, is_dead, side_at}
use Rattle.game_model.specs.Values.{optimum, weighted_sum, denominator, numerator, numerator_of}
use Rattle.game_model.specs.Dual.{open_numerator, IsZeroSet}
use Rattle.game_model.proofs.Choices.{IsChoiceOf, AreChoicesOf-choices_of, denominator-pos}
use Rattle.game_model.proofs.Best.{optimum-le, optimum-plus, optimum-each, optimum-most}
use Rattle.game_model.proofs.Marked.{marked-goal}
use Rattle.std.proofs.lemmas.Bool.{cases_Bool}
use Rattle.strategies.specs.Strategies.{worth}
use Rattle.strategies.specs.Stopping.{is_over, undecided, IsStopping, AreClose, IsWithin}
use Rattle.strategies.proofs.Turns.{worth-le}
use Rattle.strategies.proofs.Ways.{worth-constant}

-- a sum over a table that is at most the sum of two others
sums-le : (u v w : ℕ → ℕ) (edges : List Edge) → All (λ e. u e.to ≤ v e.to + w e.to) edges
    → weighted_sum u edges ≤ weighted_sum v edges + weighted_sum w edges
sums-le u v w [] h = omega arith
sums-le u v w (e ∷ es) h =
    rw (
      sum_by-cons (λ (d : Edge). d.weight * u d.to) e es,
      sum_by-cons (λ (d : Edge). d.weight * v d.to) e es,
      sum_by-cons (λ (d : Edge). d.weight * w d.to) e es,
    )
    (omega (
      arith,
      sums-le u v w es (All-tail (λ (d : Edge). u d.to ≤ v d.to + w d.to) e es h),
      mul-le-mul_left e.weight (All-head (λ (d : Edge). u d.to ≤ v d.to + w d.to) e es h),
    ))

-- what a choice is worth over a table that is at most the sum of two others
pub worth-sum : (q : Query) (u v w : ℕ → ℕ) (m : Distribution) → IsChoiceOf q.game m
    → ((t : ℕ) → t < states q → u t ≤ v t + w t) → worth q u m ≤ worth q v m + worth q w m
worth-sum q u v w m fits h =
    omega (
      arith,
      mul-le-mul_left (denominator q.game / m.total)
          (sums-le u v w m.edges (λ i d l. h (get_or m.edges i d).to (fits.inside i d l))),
    )

over-le : (over : Bool) (a b x y : ℕ) → a * x ≤ b * y → a * (if over then 0 else x) ≤ b * (if over then 0 else y)
over-le true a b x y h = let at : a * 0 ≤ b * 0 = omega arith in at
over-le false a b x y h = h

over-most : (over : Bool) (x m : ℕ) → x ≤ m → (if over then 0 else x) ≤ m
over-most true x m h = let at : 0 ≤ m = omega arith in at
over-most false x m h = h

pow-times : (a n j t : ℕ) → t ≡ j * n → a ^ t ≡ (a ^ n) ^ j
pow-times a n zero t is =
    rw (pow-zero (a ^ n)) (ap (λ x. a ^ x) (let at : t ≡ 0 = omega (arith, is) in at) ∙ pow-zero a)
pow-times a n (suc j) t is =
    ap (λ x. a ^ x) (let at : t ≡ j * n + n = omega (arith, is) in at) ∙ pow-add a (j * n) n
    ∙ ap (λ x. x * a ^ n) (pow-times a n j (j * n) refl) ∙ sym (pow-suc (a ^ n) j)

-- with what is cancelled
closing : (top up low r o n u e x c : ℕ) → 0 < c → top * n ≤ (low + r) * (e * c) → up * (e * c) ≤ top * o + r * (e * c)
    → o ≤ n + u → u ≤ c * x → up * e ≤ (low + 2 * r) * e + top * x
closing top up low r o n u e x c positive near above gap few =
    let whole : c * (up * e) ≤ c * ((low + 2 * r) * e + top * x) =
    omega (arith, near, above, mul-le-mul_left top gap, mul-le-mul_left top few) in
    le_of_mul-le-mul_left whole positive

module _ (q : Query) (posed : IsQuery q) (lost : List Bool) (zero_set : IsZeroSet q lost) where
  fits : (s : ℕ) → All (IsChoiceOf q.game) (choices_of q.game s)
  fits = (AreChoicesOf-choices_of q.game posed.game).each

  -- a dead state that is no goal has only values 0, so it is lost
  dead-none : (k s : ℕ) → is_goal q s ≡ false → is_dead q s ≡ true → numerator q k s ≡ 0
  unfolding numerator_of
  dead-none zero s other dead = rw other refl
  dead-none (suc k) s other dead = rw (other, dead) refl

  dead-lost : (s : ℕ) → s < states q → is_goal q s ≡ false → is_dead q s ≡ true → (b : Bool)
      → slice_index_or lost s false ≡ b → b ≡ true
  dead-lost s inside other dead true is = refl
  dead-lost s inside other dead false is =
      let some = zero_set.unmarked s inside is in
      absurd (omega (arith, some.1, dead-none some.0 s other dead))

  -- one step of the three, by the marks of a state
  gap-marked : (goal dead lose : Bool) (top o n u : ℕ) → (goal ≡ false → dead ≡ true → lose ≡ true)
      → o ≤ n + u → (if goal then top else (if lose then 0 else o))
      ≤ (if goal then top else (if dead then 0 else n)) + (if (goal || lose) then 0 else u)
  gap-marked true dead lose top o n u l h = let at : top ≤ top + 0 = omega arith in at
  gap-marked false dead true top o n u l h = let at : (x : ℕ) → 0 ≤ x = λ x. omega arith in at _
  gap-marked false true false top o n u l h = let no : false ≡ true = l refl refl in absurd (cc)
  gap-marked false false false top o n u l h = h

  gap-opening : (goal lose : Bool) → (lose ≡ true → goal ≡ false)
      → (if lose then 0 else 1) ≤ (if goal then 1 else 0) + (if (goal || lose) then 0 else 1)
  gap-opening goal true l = let at : (x : ℕ) → 0 ≤ x = λ x. omega arith in at _
  gap-opening true false l = let at : 1 ≤ 1 + 0 = omega arith in at
  gap-opening false false l = let at : 1 ≤ 0 + 1 = omega arith in at

  -- the value of not being lost is above the k-step value by what is undecided at most
  gap : (k s : ℕ) → s < states q → open_numerator q lost k s ≤ numerator q k s + undecided q lost k s
  unfolding open_numerator numerator_of undecided
  gap zero s inside = gap-opening (is_goal q s) (slice_index_or lost s false) (marked-goal q lost zero_set s)
  gap (suc k) s inside =
      let most : ℕ = optimum Max (worth q (undecided q lost k)) (choices_of q.game s) in
      let each : All (λ m. 1 * worth q (open_numerator q lost k) m ≤ 1 * (worth q (numerator q k) m + most))
      (choices_of q.game s) =
      λ c d l.
      omega (
        arith,
        worth-sum q (open_numerator q lost k) (numerator q k) (undecided q lost k)
            (get_or (choices_of q.game s) c d) (fits s c d l) (gap k),
        optimum-each (worth q (undecided q lost k)) (choices_of q.game s) c d l,
      ) in
      let one : 1 * optimum (side_at q s) (worth q (open_numerator q lost k)) (choices_of q.game s)
      ≤ 1 * optimum (side_at q s) (λ m. worth q (numerator q k) m + most) (choices_of q.game s) =
      optimum-le (side_at q s) (worth q (open_numerator q lost k)) (λ m. worth q (numerator q k) m + most) 1 1
      (choices_of q.game s) each in
      gap-marked (is_goal q s) (is_dead q s) (slice_index_or lost s false) (denominator q.game ^ suc k) _ _ most
      (λ other dead. dead-lost s inside other dead (slice_index_or lost s false) refl)
      (omega (arith, one, optimum-plus (side_at q s) (worth q (numerator q k)) most (choices_of q.game s)))

  over-none : (k s : ℕ) → is_over q lost s ≡ true → undecided q lost k s ≡ 0
  unfolding undecided
  over-none zero s over = rw over refl
  over-none (suc k) s over = rw over refl

  open-one : (s : ℕ) → is_over q lost s ≡ false → undecided q lost zero s ≡ 1
  unfolding undecided
  open-one s over = rw over refl

  -- what is undecided so many steps later
  later : (n u : ℕ) → ((t : ℕ) → t < states q → undecided q lost n t ≤ u) → (k j s : ℕ) → k + n ≡ j → s < states q
      → undecided q lost j s ≤ u * undecided q lost k s
  unfolding undecided
  later n u h zero j s is inside =
      let same : j ≡ n = omega (arith, is) in
      elim (cases_Bool (is_over q lost s)) [
        | inl over ↦ omega (arith, over-none j s over)
        | inr open_yet ↦
            omega (arith, ap (λ i. undecided q lost i s) same, h s inside, ap (λ x. u * x) (open-one s open_yet))
      ]
  later n u h (suc k) zero s is inside = absurd (omega (arith, is))
  later n u h (suc k) (suc j) s is inside =
      let each : All (λ m. 1 * worth q (undecided q lost j) m ≤ u * worth q (undecided q lost k) m)
      (choices_of q.game s) =
      λ c d l.
      worth-le q (undecided q lost j) (undecided q lost k) 1 u (get_or (choices_of q.game s) c d) (fits s c d l)
      (λ t there. omega (arith, later n u h k j t (omega (arith, is)) there)) in
      let all : 1 * (if is_over q lost s then 0 else optimum Max (worth q (undecided q lost j)) (choices_of q.game s))
      ≤ u * (if is_over q lost s then 0 else optimum Max (worth q (undecided q lost k)) (choices_of q.game s)) =
      over-le (is_over q lost s) 1 u _ _
      (optimum-le Max (worth q (undecided q lost j)) (worth q (undecided q lost k)) 1 u (choices_of q.game s) each) in
      omega (arith, all)

  -- and after so many stretches
  stretches : (n u : ℕ) → ((t : ℕ) → t < states q → undecided q lost n t ≤ u) → (j t s : ℕ) → t ≡ j * n → s < states q
      → undecided q lost t s ≤ u ^ j
  unfolding undecided
  stretches n u h zero t s is inside =
      let none : t ≡ 0 = omega (arith, is) in
      rw pow-zero (omega (arith, ap (λ i. undecided q lost i s) none, over-most (is_over q lost s) 1 1 (omega arith)))
  stretches n u h (suc j) t s is inside =
      rw pow-suc (omega (
        arith,
        later n u h (j * n) t s (omega (arith, is)) inside,
        mul-le-mul_left u (stretches n u h j (j * n) s refl inside),
      ))

  -- one step has at most all
  one-most : (s : ℕ) → s < states q → undecided q lost 1 s ≤ denominator q.game
  unfolding undecided
  one-most s inside = over-most (is_over q lost s) _ (denominator q.game)
      (optimum-most Max (worth q (undecided q lost zero)) (denominator q.game) (choices_of q.game s)
      (λ c d l.
      let below : 1 * worth q (undecided q lost zero) (get_or (choices_of q.game s) c d)
      ≤ 1 * worth q (λ t. 1) (get_or (choices_of q.game s) c d) =
      worth-le q (undecided q lost zero) (λ t. 1) 1 1 (get_or (choices_of q.game s) c d) (fits s c d l)
      (λ t there. omega (arith, over-most (is_over q lost t) 1 1 (omega arith))) in
      omega (arith, below, worth-constant q 1 (get_or (choices_of q.game s) c d) (fits s c d l))))

  all-most : (d s : ℕ) → s < states q → undecided q lost d s ≤ denominator q.game ^ d
  all-most d s inside = stretches 1 (denominator q.game) one-most d d s (omega arith) inside

  -- where the game stops, after r rounds
  pub closes : (n j r : ℕ) (lower upper : ℕ → ℕ) → IsStopping q lost n → j * n ≤ r → AreClose q lost r lower upper
      → IsWithin q n j r lower upper
  closes n j r lower upper stopping enough close s inside =
      let rest : ℕ = r - j * n in
      let split : j * n + (r - j * n) ≡ r = omega (arith, enough) in
      let power : denominator q.game ^ r ≡ (denominator q.game ^ n) ^ j * denominator q.game ^ rest =
      ap (λ x. denominator q.game ^ x) (sym split) ∙ pow-add (denominator q.game) (j * n) rest
      ∙ ap (λ x. x * denominator q.game ^ rest) (pow-times (denominator q.game) n j (j * n) refl) in
      let less : (t : ℕ) → t < states q → undecided q lost n t ≤ denominator q.game ^ n - 1 =
      λ t there. omega (arith, stopping t there) in
      let few : undecided q lost r s ≤ denominator q.game ^ rest * (denominator q.game ^ n - 1) ^ j =
      omega (
        arith,
        later rest (denominator q.game ^ rest) (all-most rest) (j * n) r s split inside,
        mul-le-mul_left (denominator q.game ^ rest)
            (stretches n (denominator q.game ^ n - 1) less j (j * n) s refl inside),
      ) in
      closing unit (upper s) (lower s) r (open_numerator q lost r s) (numerator q r s) (undecided q lost r s)
      ((denominator q.game ^ n) ^ j) ((denominator q.game ^ n - 1) ^ j) (denominator q.game ^ rest)
      (one-le-pow rest (denominator q.game) (denominator-pos q.game posed.game))
      (subst (λ p. unit * numerator q r s ≤ (lower s + r) * p) power (close.below s inside))
      (subst (λ p. upper s * p ≤ unit * open_numerator q lost r s + r * p) power (close.above s inside))
      (gap r s inside) few
