-- What a race leaves, from what its passes have seen.
use Rattle.std.proofs.Common.{◌≡◌, ℕ, zero, suc, ◌+◌, ◌-◌, ◌<◌, ◌≤◌, List, arith, sym, subst, le_refl, le_trans}
use Rattle.std.proofs.Common.{add-one}
use Rattle.game_model.specs.Game.{choices_of}
use Rattle.game_model.specs.Query.{Query, IsQuery, states}
use Rattle.game_model.specs.Rounded.{down_step, down_steps, opening, IsBelow, IsSettled}
use Rattle.game_model.proofs.Choices.{AreChoicesOf, AreChoicesOf-choices_of}
use Rattle.game_laws.proofs.Steps.{down_step-le, down_steps-rises, down_steps-settled}
use Rattle.step_core.specs.Word.{value_at}
use Rattle.step_core.specs.Sound.{AreSoundWords}

-- one more round
pub swept-more : (q : Query) (r : ℕ) (old new : ℕ → ℕ) → IsQuery q → IsBelow q (down_steps q r) old
    → ((s : ℕ) → s < states q → down_step q old s ≤ new s) → IsBelow q (down_steps q (r + 1)) new
unfolding down_steps
swept-more q r old new h below step s inside =
    subst (λ (n : ℕ). down_steps q n s ≤ new s) (sym (add-one r))
    (le_trans (down_step-le q (down_steps q r) old (AreChoicesOf-choices_of q.game h.game) below s) (step s inside))

-- a table that agrees with a settled one is settled
pub settled-same : (q : Query) (table other : ℕ → ℕ) → IsQuery q → ((s : ℕ) → s < states q → table s ≡ other s)
    → IsSettled q table → IsSettled q other
settled-same q table other h same settled s inside =
    omega (
      arith,
      down_step-le q other table (AreChoicesOf-choices_of q.game h.game) (λ t within. omega (arith, same t within)) s,
      settled s inside,
      same s inside,
    )

-- the opening table is read
pub opens-read : (q : Query) (read : ℕ → ℕ) → ((s : ℕ) → s < states q → read s ≡ opening q s)
    → IsBelow q (down_steps q 0) read
unfolding down_steps
opens-read q read is s inside = omega (arith, is s inside)

opening-first : (q : Query) (table : ℕ → ℕ) → IsBelow q (down_steps q 0) table → IsBelow q (opening q) table
unfolding down_steps
opening-first q table below = below

-- where what was read is settled, it is what is closed
pub closed-settled : (q : Query) (words : List ℕ) (read : ℕ → ℕ) → IsQuery q → AreSoundWords q words
    → IsBelow q read (value_at words) → IsBelow q (down_steps q 0) read → IsSettled q read
    → IsSettled q (value_at words)
closed-settled q words read h sound below opens settled =
    let chosen : AreChoicesOf q.game (choices_of q.game) = AreChoicesOf-choices_of q.game h.game in
    let top : IsBelow q (down_steps q sound.rounds) read =
    down_steps-settled q read chosen (opening-first q read opens) settled sound.rounds in
    settled-same q read (value_at words) h
    (λ s inside. omega (arith, below s inside, sound.below s inside, top s inside)) settled

-- down steps rise with their number
down_steps-more : (q : Query) (r more s : ℕ) → IsQuery q → down_steps q r s ≤ down_steps q (more + r) s
down_steps-more q r zero s h =
    let same : r ≡ 0 + r = omega arith in
    subst (λ n. down_steps q r s ≤ down_steps q n s) same (le_refl (down_steps q r s))
down_steps-more q r (suc more) s h =
    let next : suc (more + r) ≡ suc more + r = omega arith in
    subst (λ n. down_steps q r s ≤ down_steps q n s) next
    (le_trans (down_steps-more q r more s h) (down_steps-rises q (AreChoicesOf-choices_of q.game h.game) (more + r) s))

-- what is within some down steps is within more of them
pub within-more : (q : Query) (table : ℕ → ℕ) (r n : ℕ) → IsQuery q → r ≤ n → IsBelow q table (down_steps q r)
    → IsBelow q table (down_steps q n)
within-more q table r n h few below s inside =
    let all : n - r + r ≡ n = omega arith in
    le_trans (below s inside) (subst (λ m. down_steps q r s ≤ down_steps q m s) all (down_steps-more q r (n - r) s h))

-- what is nowhere below some down steps is nowhere below the opening table
pub swept-opens : (q : Query) (table : ℕ → ℕ) (r : ℕ) → IsQuery q → IsBelow q (down_steps q r) table
    → IsBelow q (down_steps q 0) table
swept-opens q table r h below s inside =
    let all : r + 0 ≡ r = omega arith in
    le_trans (subst (λ n. down_steps q 0 s ≤ down_steps q n s) all (down_steps-more q 0 r s h)) (below s inside)
