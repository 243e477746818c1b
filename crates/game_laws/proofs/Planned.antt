-- What a plan leaves of a list of choices, and the ranks of a list.
use Rattle.std.proofs.Common.{◌≡◌, ℕ, zero, suc, ◌<◌, ◌≤◌, List, [], ◌∷◌, length, take, drop, get_or, sum, arith, inl}
use Rattle.std.proofs.Common.{inr, Option, Some, None}
use Rattle.std.specs.Prelude.{slice_index, slice_index_or}
use Rattle.std.specs.List.{All}
use Rattle.std.proofs.lemmas.Bool.{cases_lt}
use Rattle.std.proofs.lemmas.Bool.Decides.{nat_tests}
use Rattle.std.proofs.lemmas.List.{get_or_past}
use Rattle.std.proofs.lemmas.List.Elements.{All-nil, All-cons}
use Rattle.std.proofs.lemmas.List.Sums.{get_or-le-sum_by}
use Rattle.game_model.specs.Plans.{planned_place}

-- one element that satisfies it, as a list
pub one-at : {X : Type 0} (P : X → Type 0) (xs : List X) (i : ℕ) (d : X) → i < length xs → P (get_or xs i d)
    → All P (take 1 (drop i xs))
one-at P [] i d l h = absurd (omega (arith, l))
one-at P (x ∷ xs) zero d l h = All-cons P x [] h (All-nil P)
one-at P (x ∷ xs) (suc i) d l h = one-at P xs i d (omega (arith, l)) h

-- a plan gives the choice that stands in it, where there is such a choice
pub planned_place-given : (plan : List (Option ℕ)) (s count c : ℕ) → slice_index_or plan s None ≡ Some c → c < count
    → planned_place plan s count ≡ c
planned_place-given plan s count c given inside = rw given (grind (arith, nat_tests))

-- no rank of a list is above their sum
pub rank-most : (ranks : List ℕ) (s : ℕ) → slice_index ranks s ≤ sum ranks
rank-most ranks s = elim (cases_lt s (length ranks)) [
  | inl inside ↦ get_or-le-sum_by (λ (x : ℕ). x) ranks s 0 inside
  | inr past ↦ rw (get_or_past ranks s 0 past) (omega arith)
]
