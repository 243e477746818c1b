-- What the loops over the choices of a state find.
use Rattle.std.proofs.Common.{◌≡◌, ℕ, ◌+◌, ◌-◌, ◌*◌, ◌/◌, ◌<◌, ◌≤◌, List, [], ◌∷◌, length, take, fold, arith, ap, subst}
use Rattle.std.proofs.Common.{◌∙◌, min}
use Rattle.std.specs.Prelude.{slice_index, slice_index_or, All}
use Rattle.std.proofs.lemmas.List.{take_all}
use Rattle.std.proofs.Math.Nat.{div-lt_iff_lt-mul, min-eq_right}
use Rattle.game_model.specs.declared.game.Side.TheVariants.{Min}
use Rattle.game_model.specs.Game.{Distribution, IsDistribution, choices_of, choice_of, no_distribution}
use Rattle.game_model.specs.Query.{Query, IsQuery, states}
use Rattle.game_model.specs.Values.{better, optimum, weighted_sum}
use Rattle.game_model.specs.Limits.{unit}
use Rattle.game_model.specs.Rounded.{down_value, up_value}
use Rattle.game_model.proofs.Rising.{total-pos}
use Rattle.fixed_bellman.proofs.Sums.{weighted_sum-whole}

-- the weighted sum is within the total's worth
whole-total : (choice : Distribution) (table : List ℕ) → IsDistribution choice → All (λ v. v ≤ unit) table
    → weighted_sum (slice_index table) choice.edges ≤ choice.total * unit
whole-total choice table h units = subst (λ w. weighted_sum (slice_index table) choice.edges ≤ w * unit) h.sums
    (weighted_sum-whole choice.edges table units)

up-units : (sum total m : ℕ) → 0 < total → sum ≤ total * m → (sum + (total - 1)) / total ≤ m
up-units sum total m positive h =
    let below : (sum + (total - 1)) / total < m + 1 = (div-lt_iff_lt-mul positive).1 (omega (arith, h)) in
    omega arith

pub up_value-units : (choice : Distribution) (table : List ℕ) → IsDistribution choice → All (λ v. v ≤ unit) table
    → up_value (slice_index table) choice ≤ unit
up_value-units choice table h units = up-units (weighted_sum (slice_index table) choice.edges) choice.total unit
    (total-pos choice h) (whole-total choice table h units)

pub down_value-most : (choice : Distribution) (table : List ℕ) → IsDistribution choice → All (λ v. v ≤ unit) table
    → down_value (slice_index table) choice ≤ unit
down_value-most choice table h units =
    let below : weighted_sum (slice_index table) choice.edges / choice.total < unit + 1 =
    (div-lt_iff_lt-mul (total-pos choice h)).1 (omega (arith, whole-total choice table h units, total-pos choice h)) in
    omega arith

-- the least value of all, as the loop finds it from a top that the first value does not pass
least-whole : (f : Distribution → ℕ) (xs : List Distribution) (p best top : ℕ) → 0 < length xs → length xs ≤ p
    → f (slice_index_or xs 0 no_distribution) ≤ top → best ≡ fold (λ least y. better Min least (f y)) top (take p xs)
    → best ≡ optimum Min f xs
least-whole f [] p best top some past first same = absurd (omega arith)
least-whole f (x ∷ xs) p best top some past first same =
    let whole : take p (x ∷ xs) ≡ x ∷ xs = take_all p (x ∷ xs) past in
    let start : min top (f x) ≡ f x = min-eq_right first in
    same ∙ ap (λ ys. fold (λ least y. better Min least (f y)) top ys) whole
    ∙ ap (λ a. fold (λ least y. better Min least (f y)) a xs) start

-- what a loop over the choices of a state finds, of values that are at most the unit
pub least-found : (q : Query) (s p count best : ℕ) (row : List Distribution) (f : Distribution → ℕ) → IsQuery q
    → s < states q → row ≡ choices_of q.game s → count ≡ length row → count ≤ p
    → ((m : _) → IsDistribution m → f m ≤ unit)
    → best ≡ fold (λ least y. better Min least (f y)) unit (take p (choices_of q.game s))
    → best ≡ optimum Min f (choices_of q.game s)
least-found q s p count best row f h inside is_row is_count past units =
    let some : 0 < length (choices_of q.game s) = h.game.chosen s inside in
    least-whole f (choices_of q.game s) p best unit some (omega (arith, ap length is_row))
    (units (choice_of q.game s 0) (h.game.distribution s 0 inside some))
