-- Lists that hold what is wanted at each state.
use Rattle.std.proofs.Common.{◌≡◌, ◌∙◌, ◌<◌, ◌≤◌, ℕ, Bool, true, false, List, length, get_or, arith, sym, ap, subst}
use Rattle.std.specs.Prelude.{All}
use Rattle.std.specs.Bool.{if◌then◌else◌}
use Rattle.std.proofs.lemmas.List.Elements.{All-from_get_or}
use Rattle.game_model.specs.Limits.{unit}
use Rattle.formula_sets.specs.Posing.{at_states}
use Rattle.formula_sets.proofs.Asking.{at_states-at, length-at_states}
use Rattle.formula_truth.specs.InnerRuns.{units_at}

module _ {X : Type 0} (value : ℕ → X) (n : ℕ) (xs : List X) (is : xs ≡ at_states value n) where
  pub filled-length : length xs ≡ n
  filled-length = ap (λ (ys : List X). length ys) is ∙ length-at_states value n

  pub filled-at : (d : X) (s : ℕ) → s < n → get_or xs s d ≡ value s
  filled-at d s h = ap (λ (ys : List X). get_or ys s d) is ∙ at_states-at value n s d h

-- tables of units
pub filled-units : (value : ℕ → ℕ) (n : ℕ) (xs : List ℕ) → xs ≡ at_states value n → ((s : ℕ) → value s ≤ unit)
    → All (λ v. v ≤ unit) xs
filled-units value n xs is units =
    All-from_get_or (λ v. v ≤ unit) xs 0 (λ s h.
    subst (λ v. v ≤ unit) (sym (filled-at value n xs is 0 s (omega (arith, h, filled-length value n xs is)))) (units s))

unit-or-none : (holds : Bool) → (if holds then unit else 0) ≤ unit
unit-or-none true = let at : unit ≤ unit = omega arith in at
unit-or-none false = let at : 0 ≤ unit = omega arith in at

pub units_at-units : (holds : ℕ → Bool) (s : ℕ) → units_at holds s ≤ unit
units_at-units holds s = unit-or-none (holds s)
