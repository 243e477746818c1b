-- The entries of the raised tables of one excess, at one state.
use Rattle.std.proofs.Common.{◌≡◌, ℕ, zero, suc, ◌+◌, ◌-◌, ◌<◌, ◌≤◌, Bool, true, false, arith, refl, sym, subst, ap}
use Rattle.std.proofs.Common.{◌∙◌, min}
use Rattle.std.specs.Prelude.{slice_index, slice_index_or}
use Rattle.std.specs.Bool.{if◌then◌else◌}
use Rattle.std.proofs.Math.Nat.{min-le_left, min-eq_left}
use Rattle.game_model.specs.Query.{states, is_goal, is_dead}
use Rattle.game_model.specs.Limits.{unit}
use Rattle.lower_guess.specs.declared.guesses.Guesses.{Guesses}
use Rattle.lower_guess.specs.LowerGuess.{raised_table}
use Rattle.lower_guess.specs.inside.OfGuesses.{first_entry_of, entry_of, step_of, best_of, AreRefusedOf}
use Rattle.lower_guess.proofs.Refused.{fallen-refused}

pub entry-first : (g : Guesses) (j s : ℕ) → j ≡ 0 → entry_of g j s ≡ first_entry_of g s
unfolding raised_table
entry-first g j s h = subst (λ n. entry_of g n s ≡ first_entry_of g s) (sym h) refl

-- a later entry is the lesser of the one before and its down step
pub entry-later : (g : Guesses) (j s : ℕ) → 0 < j → entry_of g j s ≡ min (entry_of g (j - 1) s) (step_of g (j - 1) s)
unfolding raised_table
entry-later g zero s h = absurd (omega arith)
entry-later g (suc j) s h = subst (λ n. min (entry_of g j s) (step_of g j s) ≡ min (entry_of g n s) (step_of g n s))
    (let same : j ≡ suc j - 1 = omega arith in same) refl

pub entry-zero : (g : Guesses) (j s : ℕ) → 0 < j → entry_of g (j - 1) s ≡ 0 → entry_of g j s ≡ 0
entry-zero g j s h none = entry-later g j s h ∙ ap (λ x. min x (step_of g (j - 1) s)) none
    ∙ min-eq_left (let least : 0 ≤ step_of g (j - 1) s = omega arith in least)

pub step-goal : (g : Guesses) (j s : ℕ) → is_goal g.question.now s ≡ true → step_of g j s ≡ unit
step-goal g j s goal = rw goal refl

pub step-dead : (g : Guesses) (j s : ℕ) → is_goal g.question.now s ≡ false
    → is_dead g.question.now s ≡ true → step_of g j s ≡ 0
step-dead g j s goal dead = rw (goal, dead) refl

pub step-free : (g : Guesses) (j s : ℕ) → is_goal g.question.now s ≡ false → is_dead g.question.now s ≡ false
    → step_of g j s ≡ best_of g j s
step-free g j s goal dead = rw (goal, dead) refl

first-units : (goal mark : Bool) (x : ℕ) → (if goal then unit else (if mark then 0 else min unit x)) ≤ unit
first-units true mark x = let at : unit ≤ unit = omega arith in at
first-units false true x = let at : 0 ≤ unit = omega arith in at
first-units false false x = min-le_left unit x

-- each entry is at most the unit
pub entry-units : (g : Guesses) (j s : ℕ) → entry_of g j s ≤ unit
unfolding raised_table
entry-units g zero s =
    first-units (is_goal g.question.now s) (slice_index_or g.zero.now s false) (slice_index g.base.now s + g.excess)
entry-units g (suc j) s = omega (arith, min-le_left (entry_of g j s) (step_of g j s), entry-units g j s)

-- where the last table falls, each table is refused
pub falls-refused : (g : Guesses) (s : ℕ) → s < states g.question.now → step_of g 4 s < entry_of g 4 s → AreRefusedOf g
falls-refused g s inside falls =
    fallen-refused g.question.now g.zero.now (slice_index g.base.now) g.excess g.posed s inside falls
