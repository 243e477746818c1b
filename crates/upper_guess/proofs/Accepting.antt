-- Some table is accepted: the first one of the last excess, at the latest.
use Rattle.std.proofs.Common.{◌≡◌, ℕ, ◌+◌, ◌<◌, ◌≤◌, Bool, true, false, List, arith, refl, min}
use Rattle.std.specs.Prelude.{slice_index_or}
use Rattle.std.specs.Bool.{if◌then◌else◌}
use Rattle.std.proofs.Math.Nat.{min-le_left, min-eq_left}
use Rattle.game_model.specs.Query.{Query, IsQuery, states, is_goal}
use Rattle.game_model.specs.Limits.{unit}
use Rattle.game_model.specs.Rounded.{up_step, IsInductive}
use Rattle.game_model.specs.Dual.{IsZeroSet}
use Rattle.upper_guess.specs.Guess.{excess, last_place, first_guess, guess_table, AreRefused}
use Rattle.upper_guess.proofs.Steps.{up_step-units}
use Rattle.inductive_check.proofs.Zero.{up_step-zero}

pub guess-units : (mark goal : Bool) (x : ℕ) → (if mark then 0 else (if goal then unit else min unit x)) ≤ unit
guess-units true goal x = let at : 0 ≤ unit = omega arith in at
guess-units false true x = let at : unit ≤ unit = omega arith in at
guess-units false false x = min-le_left unit x

guess-marked : (mark : Bool) (x : ℕ) → mark ≡ true → (if mark then 0 else x) ≡ 0
guess-marked mark x h = rw h refl

guess-unmarked : (mark goal : Bool) (x : ℕ) → mark ≡ false → unit ≤ x
    → (if mark then 0 else (if goal then unit else min unit x)) ≡ unit
guess-unmarked true goal x h k = absurd (cc)
guess-unmarked false true x h k = refl
guess-unmarked false false x h k = min-eq_left k

-- with an excess of at least the unit the first table is the unit outside the zero set, and accepted
last-accepted : (q : Query) (marks : List Bool) (lower : ℕ → ℕ) (e : ℕ) → IsQuery q → IsZeroSet q marks → unit ≤ e
    → IsInductive q (guess_table q marks lower e 0)
unfolding guess_table
last-accepted q marks lower e posed h large = λ s inside.
    let units : (t : ℕ) → t < states q → first_guess q marks lower e t ≤ unit =
    λ t within. guess-units (slice_index_or marks t false) (is_goal q t) (lower t + e) in
    elim (slice_index_or marks s false) as (λ mark.
    slice_index_or marks s false ≡ mark → up_step q (first_guess q marks lower e) s ≤ first_guess q marks lower e s) [
      | true ↦ λ is. omega (
        arith,
        up_step-zero q marks (first_guess q marks lower e) posed h units
            (λ t within marked. guess-marked (slice_index_or marks t false) _ marked) s inside is,
      )
      | false ↦ λ is. omega (
        arith,
        up_step-units q (first_guess q marks lower e) posed units s,
        guess-unmarked (slice_index_or marks s false) (is_goal q s) (lower s + e) is
            (let enough : unit ≤ lower s + e = omega (arith, large) in enough),
      )
    ] refl

-- so not all are refused
pub not-all-refused : (q : Query) (marks : List Bool) (lower : ℕ → ℕ) → IsQuery q → IsZeroSet q marks
    → AreRefused q marks lower (excess last_place) → ⊥
not-all-refused q marks lower posed h all =
    let refused = all 0 (omega arith) in
    let large : unit ≤ excess last_place = search arith in
    let accepted : IsInductive q (guess_table q marks lower (excess last_place) 0) =
    last-accepted q marks lower (excess last_place) posed h large in
    omega (arith, refused.2, accepted refused.0 refused.1)
