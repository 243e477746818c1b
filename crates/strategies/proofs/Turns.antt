-- What one turn of a play adds.
use Rattle.std.proofs.Common.{◌≡◌, ℕ, zero, suc, ◌*◌, ◌/◌, ◌^◌, ◌<◌, ◌≤◌, Bool, true, false, List, [], ◌∷◌, length}
use Rattle.std.proofs.Common.{get_or, sum_by, arith, subst}
use Rattle.std.specs.List.{All, range_with_len}
use Rattle.std.specs.Bool.{if◌then◌else◌}
use Rattle.std.proofs.Math.Nat.{pow-suc, pow-zero}
use Rattle.std.proofs.lemmas.List.Sums.{sum_by-cons}
use Rattle.std.proofs.lemmas.List.FromFn.{length-range_with_len}
use Rattle.game_model.specs.declared.game.Side.{Side}
use Rattle.game_model.specs.declared.game.Side.TheVariants.{Max, Min}
use Rattle.game_model.specs.Game.{Distribution, choices_of}
use Rattle.game_model.specs.Query.{Query, states, side_at}
use Rattle.game_model.specs.Values.{weighted_sum, denominator}
use Rattle.game_model.proofs.Choices.{IsChoiceOf}
use Rattle.game_model.proofs.Best.{weighted_sum-le}
use Rattle.game_model.proofs.Rises.{scaled-le}
use Rattle.strategies.specs.Strategies.{Turn, Strategy, IsStrategyOf, of_side, worth}

-- powers of a product
pub pow-product : (a b n : ℕ) → (a * b) ^ n ≡ a ^ n * b ^ n
pow-product a b zero = rw (pow-zero (a * b), pow-zero a, pow-zero b) (omega arith)
pow-product a b (suc n) = rw (pow-suc (a * b) n, pow-suc a n, pow-suc b n, pow-product a b n) (omega arith)

-- by marks, multiples in order
pub marked-le : (goal dead : Bool) (a b top top' x x' : ℕ) → a * top ≤ b * top' → a * x ≤ b * x'
    → a * (if goal then top else (if dead then 0 else x)) ≤ b * (if goal then top' else (if dead then 0 else x'))
marked-le true dead a b top top' x x' h k = h
marked-le false true a b top top' x x' h k = omega arith
marked-le false false a b top top' x x' h k = k

-- a sum of terms each at least a number
pub sum-least : (f : ℕ → ℕ) (least : ℕ) (xs : List ℕ) → ((x : ℕ) → least ≤ f x) → length xs * least ≤ sum_by f xs
sum-least f least [] h = omega arith
sum-least f least (x ∷ xs) h = rw (sum_by-cons f x xs) (omega (arith, sum-least f least xs h, h x))

-- a sum of terms each at most a number
pub sum-most : (f : ℕ → ℕ) (most : ℕ) (xs : List ℕ) → ((x : ℕ) → f x ≤ most) → sum_by f xs ≤ length xs * most
sum-most f most [] h = omega arith
sum-most f most (x ∷ xs) h = rw (sum_by-cons f x xs) (omega (arith, sum-most f most xs h, h x))

-- over the faces of a die
pub faces-least : (f : ℕ → ℕ) (least faces : ℕ) → ((x : ℕ) → least ≤ f x)
    → faces * least ≤ sum_by f (range_with_len 0 faces)
faces-least f least faces h = subst (λ n. n * least ≤ sum_by f (range_with_len 0 faces)) (length-range_with_len 0 faces)
    (sum-least f least (range_with_len 0 faces) h)

pub faces-most : (f : ℕ → ℕ) (most faces : ℕ) → ((x : ℕ) → f x ≤ most)
    → sum_by f (range_with_len 0 faces) ≤ faces * most
faces-most f most faces h = subst (λ n. sum_by f (range_with_len 0 faces) ≤ n * most) (length-range_with_len 0 faces)
    (sum-most f most (range_with_len 0 faces) h)

-- a choice over tables that are in order at each of its successors
pub worth-among : (q : Query) (Among : ℕ → Type 0) (v w : ℕ → ℕ) (a b : ℕ) (m : Distribution)
    → All (λ e. Among e.to) m.edges → ((t : ℕ) → Among t → a * v t ≤ b * w t)
    → a * worth q v m ≤ b * worth q w m
worth-among q Among v w a b m fits h =
    scaled-le a b (denominator q.game / m.total) (weighted_sum v m.edges) (weighted_sum w m.edges)
    (weighted_sum-le v w a b m.edges (λ i d l. h (get_or m.edges i d).to (fits i d l)))

-- a choice is worth more where its successors are
pub worth-le : (q : Query) (v w : ℕ → ℕ) (a b : ℕ) (m : Distribution) → IsChoiceOf q.game m
    → ((t : ℕ) → t < states q → a * v t ≤ b * w t) → a * worth q v m ≤ b * worth q w m
worth-le q v w a b m fits h = worth-among q (λ t. t < states q) v w a b m fits.inside h

-- the strategy that is to move takes a choice that exists
pub of_side-inside : (q : Query) (greatest least : Strategy) → IsStrategyOf q Max greatest
    → IsStrategyOf q Min least → (past : List Turn) (s throw : ℕ) → s < states q → (side : Side) → side_at q s ≡ side
    → of_side side greatest least past s throw < length (choices_of q.game s)
of_side-inside q greatest least up down past s throw inside Max is = up past s throw inside is
of_side-inside q greatest least up down past s throw inside Min is = down past s throw inside is
