-- The states at which a label holds, as a rising list.
use Rattle.std.proofs.Common.{◌≡◌, ◌<◌, ◌≤◌, ◌+◌, ℕ, suc, zero, Bool, true, false, List, [], ◌∷◌, length, get_or, sym}
use Rattle.std.proofs.Common.{ap, ◌∙◌, refl, subst, arith, eqb, ◌||◌, add-one}
use Rattle.std.proofs.lemmas.Bool.{eq-eqb}
use Rattle.std.specs.List.{list_any}
use Rattle.std.specs.List.Sorted.{IsStrictlyIncreasing}
use Rattle.std.proofs.lemmas.Bool.Decides.{nat_tests}
use Rattle.label_lines.specs.Labels.{marked_from}

from_start : (k : ℕ) (marks : List Bool) (j : ℕ) → j < length (marked_from k marks)
    → k ≤ get_or (marked_from k marks) j 0
from_start k [] j h = absurd (omega arith)
from_start k (true ∷ marks) zero h = omega arith
from_start k (true ∷ marks) (suc j) h = omega (arith, from_start (k + 1) marks j (omega arith))
from_start k (false ∷ marks) j h = omega (arith, from_start (k + 1) marks j h)

front : (k : ℕ) (states : List ℕ) → ((j : ℕ) → j < length states → k + 1 ≤ get_or states j 0)
    → IsStrictlyIncreasing states → IsStrictlyIncreasing (k ∷ states)
front k states above rising zero h = omega (arith, above 0 (omega arith))
front k states above rising (suc j) h =
    let P : ℕ → Type 0 = λ n. get_or states j 0 < get_or (k ∷ states) n 0 in
    let Q : ℕ → Type 0 = λ n. get_or states j 0 < get_or states n 0 in
    subst P (sym (add-one (suc j))) (subst Q (add-one j) (rising j (omega arith)))

pub marked_from-rises : (k : ℕ) (marks : List Bool) → IsStrictlyIncreasing (marked_from k marks)
marked_from-rises k [] = λ j h. absurd (omega arith)
marked_from-rises k (true ∷ marks) =
    front k (marked_from (k + 1) marks) (from_start (k + 1) marks) (marked_from-rises (k + 1) marks)
marked_from-rises k (false ∷ marks) = marked_from-rises (k + 1) marks

differs : (a b : ℕ) → b < a → eqb a b ≡ false
differs a b h = grind (arith, nat_tests)

smaller : (a b : ℕ) → a < b → eqb a b ≡ false
smaller a b h = grind (arith, nat_tests)

none_below : (k : ℕ) (marks : List Bool) (x : ℕ) → x < k → list_any (λ s. eqb s x) (marked_from k marks) ≡ false
none_below k [] x h = refl
none_below k (true ∷ marks) x h = ap (λ v. v || list_any (λ s. eqb s x) (marked_from (k + 1) marks)) (differs k x h)
    ∙ none_below (k + 1) marks x (omega arith)
none_below k (false ∷ marks) x h = none_below (k + 1) marks x (omega arith)

pub list_any-marked_from : (k : ℕ) (marks : List Bool) (j : ℕ)
    → list_any (λ s. eqb s (k + j)) (marked_from k marks) ≡ get_or marks j false
list_any-marked_from k [] j = refl
list_any-marked_from k (true ∷ marks) zero =
    ap (λ v. v || list_any (λ s. eqb s (k + 0)) (marked_from (k + 1) marks)) (eq-eqb k (k + 0) (omega arith))
list_any-marked_from k (true ∷ marks) (suc j) =
    ap (λ v. v || list_any (λ s. eqb s (k + suc j)) (marked_from (k + 1) marks)) (smaller k (k + suc j) (omega arith))
    ∙ ap (λ x. list_any (λ s. eqb s x) (marked_from (k + 1) marks)) (next k j)
    ∙ list_any-marked_from (k + 1) marks j
  where
    next : (k j : ℕ) → k + suc j ≡ k + 1 + j
    next k j = omega arith
list_any-marked_from k (false ∷ marks) zero = none_below (k + 1) marks (k + 0) (omega arith)
list_any-marked_from k (false ∷ marks) (suc j) =
    ap (λ x. list_any (λ s. eqb s x) (marked_from (k + 1) marks)) (next k j) ∙ list_any-marked_from (k + 1) marks j
  where
    next : (k j : ℕ) → k + suc j ≡ k + 1 + j
    next k j = omega arith
