-- The entries of the guesses of one excess.
use Rattle.std.proofs.Common.{◌≡◌, ℕ, zero, suc, ◌+◌, ◌-◌, ◌<◌, ◌≤◌, true, false, arith, refl, sym, subst, ◌∙◌}
use Rattle.std.specs.Prelude.{slice_index, slice_index_or}
use Rattle.game_model.specs.Query.{states, is_goal, is_dead}
use Rattle.game_model.specs.Limits.{unit}
use Rattle.game_model.specs.Rounded.{up_step}
use Rattle.upper_guess.specs.declared.guesses.Guesses.{Guesses}
use Rattle.upper_guess.specs.Guess.{guess_table}
use Rattle.upper_guess.specs.inside.OfGuesses.{first_entry_of, entry_of, best_of, IsRefusedOf}
use Rattle.upper_guess.proofs.Steps.{up_step-units}
use Rattle.upper_guess.proofs.Accepting.{guess-units}

pub entry-first : (g : Guesses) (j s : ℕ) → j ≡ 0 → entry_of g j s ≡ first_entry_of g s
unfolding guess_table
entry-first g j s h = subst (λ n. entry_of g n s ≡ first_entry_of g s) (sym h) refl

-- a later entry is an up step
entry-later : (g : Guesses) (j s : ℕ) → 0 < j → entry_of g j s ≡ up_step g.question.now (entry_of g (j - 1)) s
unfolding guess_table
entry-later g zero s h = absurd (omega arith)
entry-later g (suc j) s h =
    subst (λ n. up_step g.question.now (entry_of g j) s ≡ up_step g.question.now (entry_of g n) s)
    (let same : j ≡ suc j - 1 = omega arith in same) refl

pub entry-goal : (g : Guesses) (j s : ℕ) → 0 < j → is_goal g.question.now s ≡ true → entry_of g j s ≡ unit
entry-goal g j s h goal = entry-later g j s h ∙ rw goal refl

pub entry-dead : (g : Guesses) (j s : ℕ) → 0 < j → is_goal g.question.now s ≡ false → is_dead g.question.now s ≡ true
    → entry_of g j s ≡ 0
entry-dead g j s h goal dead = entry-later g j s h ∙ rw (goal, dead) refl

pub entry-free : (g : Guesses) (j s : ℕ) → 0 < j → is_goal g.question.now s ≡ false → is_dead g.question.now s ≡ false
    → entry_of g j s ≡ best_of g (j - 1) s
entry-free g j s h goal dead = entry-later g j s h ∙ rw (goal, dead) refl

-- each entry is at most the unit
pub entry-units : (g : Guesses) (j s : ℕ) → entry_of g j s ≤ unit
unfolding guess_table
entry-units g zero s =
    guess-units (slice_index_or g.zero.now s false) (is_goal g.question.now s) (slice_index g.lower.now s + g.excess)
entry-units g (suc j) s = up_step-units g.question.now (entry_of g j) g.posed (λ t inside. entry-units g j t) s

-- one state whose next entry is above its entry refuses the table
pub refused-at : (g : Guesses) (j s : ℕ) → s < states g.question.now
    → entry_of g j s < entry_of g (j + 1) s → IsRefusedOf g j
refused-at g j s inside above =
    let step : entry_of g (j + 1) s ≡ up_step g.question.now (entry_of g (j + 1 - 1)) s =
    entry-later g (j + 1) s (omega arith) in
    let same : j + 1 - 1 ≡ j = omega arith in
    (s, inside, subst (λ n. entry_of g j s < up_step g.question.now (entry_of g n) s) same (omega (arith, above, step)))
