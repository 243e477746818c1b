-- Numbers of choices.
use Rattle.std.proofs.Common.{◌≡◌, ℕ, zero, suc, ◌+◌, ◌-◌, ◌<◌, ◌≤◌, List, [], length, arith, sym, subst, add-zero}
use Rattle.std.proofs.lemmas.List.Sums.{sum_by_more}
use Rattle.game_model.specs.Game.{Distribution, choices_of, choices_below}
use Rattle.predecessors.specs.Flags.{number}

-- one more state
pub choices_below-more : (game : List (List Distribution)) (s : ℕ) → s < length game
    → choices_below game (s + 1) ≡ choices_below game s + length (choices_of game s)
choices_below-more game s l = sum_by_more length game s [] l

choices_below-plus : (game : List (List Distribution)) (s d : ℕ) → s + d ≤ length game
    → choices_below game s ≤ choices_below game (s + d)
choices_below-plus game s zero l =
    subst (λ n. choices_below game s ≤ choices_below game n) (sym (add-zero s)) (omega arith)
choices_below-plus game s (suc d) l =
    let at : s + d + 1 ≡ s + suc d = omega arith in
    subst (λ n. choices_below game s ≤ choices_below game n) at
    (omega (arith, choices_below-plus game s d (omega arith), choices_below-more game (s + d) (omega arith)))

-- the number of a choice is below those of later states
pub number-below : (game : List (List Distribution)) (t d s : ℕ) → t < s → s ≤ length game
    → d < length (choices_of game t) → number game t d < choices_below game s
number-below game t d s l m inside =
    let rest : ℕ = s - (t + 1) in
    let at : t + 1 + rest ≡ s = omega arith in
    let rise : choices_below game (t + 1) ≤ choices_below game s = subst
    (λ n. choices_below game (t + 1) ≤ choices_below game n) at (choices_below-plus game (t + 1) rest (omega arith)) in
    omega (arith, rise, choices_below-more game t (omega arith), inside)
