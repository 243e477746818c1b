-- k-step values rise with k and are at most 1.
use Rattle.std.proofs.Common.{◌≡◌, ℕ, zero, suc, ◌*◌, ◌/◌, ◌^◌, ◌≤◌, Bool, true, false, List, get_or, arith, refl, sym}
use Rattle.std.proofs.Common.{◌∙◌, ap, subst}
use Rattle.std.specs.List.{All}
use Rattle.std.specs.Bool.{if◌then◌else◌}
use Rattle.std.proofs.Math.Nat.{mul-le-mul_left, mul-le-mul_right, pow-suc, one-mul, pow-zero, div-mul-le_self}
use Rattle.game_model.specs.Game.{Distribution}
use Rattle.game_model.specs.Query.{Query, is_goal, is_dead, side_at}
use Rattle.game_model.specs.Values.{optimum, weighted_sum, bellman, denominator, numerator_of}
use Rattle.game_model.proofs.Choices.{IsChoiceOf, AreChoicesOf}
use Rattle.game_model.proofs.Best.{optimum-le, optimum-most, weighted_sum-le, weighted_sum-most}

-- one step from values whose multiples are in order
pub bellman-le : (q : Query) (choices : ℕ → List Distribution) (a b top top' : ℕ) (f g : Distribution → ℕ) (s : ℕ)
    → a * top ≤ b * top' → All (λ m. a * f m ≤ b * g m) (choices s)
    → a * bellman q choices top f s ≤ b * bellman q choices top' g s
bellman-le q choices a b top top' f g s at_goal each =
    elim (is_goal q s)
    as (λ goal. a * (if goal then top else (if is_dead q s then 0 else optimum (side_at q s) f (choices s)))
    ≤ b * (if goal then top' else (if is_dead q s then 0 else optimum (side_at q s) g (choices s)))) [
      | true ↦ at_goal
      | false ↦ elim (is_dead q s) as (λ dead. a * (if dead then 0 else optimum (side_at q s) f (choices s))
          ≤ b * (if dead then 0 else optimum (side_at q s) g (choices s))) [
            | true ↦ omega arith
            | false ↦ optimum-le (side_at q s) f g a b (choices s) each
          ]
    ]

-- multiples in order, times a common factor
pub scaled-le : (a b r x y : ℕ) → a * x ≤ b * y → a * (r * x) ≤ b * (r * y)
scaled-le a b r x y h = omega (arith, mul-le-mul_left r h)

pub pow-one : (d : ℕ) → d ^ 1 ≡ d
pow-one d = pow-suc d zero ∙ ap (λ x. x * d) (pow-zero d) ∙ one-mul d

-- the first step
opens : (goal : Bool) (d x : ℕ) → d * (if goal then 1 else 0) ≤ 1 * (if goal then d ^ 1 else x)
opens true d x = let at : d * 1 ≤ 1 * d ^ 1 = omega (arith, pow-one d) in at
opens false d x = let at : d * 0 ≤ 1 * x = omega arith in at

-- k-step values rise with k
pub numerator_of-rises : (q : Query) (choices : ℕ → List Distribution) (k s : ℕ)
    → denominator q.game * numerator_of q choices k s ≤ 1 * numerator_of q choices (suc k) s
unfolding numerator_of
numerator_of-rises q choices zero s = opens (is_goal q s) (denominator q.game) _
numerator_of-rises q choices (suc k) s =
    bellman-le q choices (denominator q.game) 1 (denominator q.game ^ suc k) (denominator q.game ^ suc (suc k)) _ _ s
    (omega (arith, pow-suc (denominator q.game) (suc k)))
    (λ i d l.
    let m : Distribution = get_or (choices s) i d in
    scaled-le (denominator q.game) 1 (denominator q.game / m.total) (weighted_sum (numerator_of q choices k) m.edges)
    (weighted_sum (numerator_of q choices (suc k)) m.edges)
    (weighted_sum-le (numerator_of q choices k) (numerator_of q choices (suc k)) (denominator q.game) 1 m.edges
    (λ p e _. numerator_of-rises q choices k (get_or m.edges p e).to)))

-- one step from values that are at most a number
pub bellman-most : (q : Query) (choices : ℕ → List Distribution) (top m : ℕ) (f : Distribution → ℕ) (s : ℕ) → top ≤ m
    → All (λ distribution. f distribution ≤ m) (choices s) → bellman q choices top f s ≤ m
bellman-most q choices top m f s at_goal each =
    elim (is_goal q s)
    as (λ goal. (if goal then top else (if is_dead q s then 0 else optimum (side_at q s) f (choices s))) ≤ m) [
      | true ↦ at_goal
      | false ↦ elim (is_dead q s) as (λ dead. (if dead then 0 else optimum (side_at q s) f (choices s)) ≤ m) [
        | true ↦ omega arith
        | false ↦ optimum-most (side_at q s) f m (choices s) each
      ]
    ]

opens-most : (goal : Bool) (d : ℕ) → (if goal then 1 else 0) ≤ d ^ 0
opens-most true d = let at : 1 ≤ d ^ 0 = omega (arith, pow-zero d) in at
opens-most false d = let at : 0 ≤ d ^ 0 = omega arith in at

-- the scaled sum of a choice is within the whole
scaled-most : (d w x p : ℕ) → x ≤ w * p → d / w * x ≤ p * d
scaled-most d w x p h = omega (arith, mul-le-mul_left (d / w) h, mul-le-mul_right p (div-mul-le_self d w))

-- k-step values are at most 1
pub numerator_of-most : (q : Query) (choices : ℕ → List Distribution) → AreChoicesOf q.game choices → (k s : ℕ)
    → numerator_of q choices k s ≤ denominator q.game ^ k
unfolding numerator_of
numerator_of-most q choices chosen zero s = opens-most (is_goal q s) (denominator q.game)
numerator_of-most q choices chosen (suc k) s =
    bellman-most q choices (denominator q.game ^ suc k) (denominator q.game ^ suc k) _ s (omega arith)
    (λ i d l.
    let m : Distribution = get_or (choices s) i d in
    let fits : IsChoiceOf q.game m = chosen.each s i d l in
    rw pow-suc
    (scaled-most (denominator q.game) m.total (weighted_sum (numerator_of q choices k) m.edges) (denominator q.game ^ k)
    (subst (λ w. weighted_sum (numerator_of q choices k) m.edges ≤ w * denominator q.game ^ k) fits.sums
    (weighted_sum-most (numerator_of q choices k) (denominator q.game ^ k) m.edges
    (λ p e _. numerator_of-most q choices chosen k (get_or m.edges p e).to)))))

marked-goal : (goal : Bool) (top x : ℕ) → goal ≡ true → (if goal then top else x) ≡ top
marked-goal goal top x h = rw h refl

-- a goal's value is 1
pub numerator_of-goal : (q : Query) (choices : ℕ → List Distribution) (k s : ℕ) → is_goal q s ≡ true
    → numerator_of q choices k s ≡ denominator q.game ^ k
unfolding numerator_of
numerator_of-goal q choices zero s h = marked-goal (is_goal q s) 1 0 h ∙ sym (pow-zero (denominator q.game))
numerator_of-goal q choices (suc k) s h = marked-goal (is_goal q s) (denominator q.game ^ suc k) _ h
