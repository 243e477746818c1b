-- What transitions make is known from those of each choice, in whatever order they stand.
use Rattle.std.proofs.Common.{◌≡◌, ◌∙◌, ◌<◌, ℕ, zero, suc, ◌+◌, ◌==◌, cond, List, [], ◌∷◌, map, Option, option_map, Ok}
use Rattle.std.proofs.Common.{refl, ap, ap₂, arith}
use Rattle.std.specs.Option.{option_or}
use Rattle.distributions.specs.Parts.{choice_said}
use Rattle.transition_lines.specs.declared.line.Transition.{Transition}
use Rattle.transition_lines.specs.Choices.{transitions_of, part_of, choice_end, least_missing, first_gap, first_crowded}
use Rattle.transition_lines.specs.Choices.{if_crowded, of_state, self_loop, sum_of_first, then_push, choice_at}
use Rattle.transition_lines.specs.Choices.{choices_said}
use Rattle.transition_lines.specs.Choices.{state_said, states_said, unless_gap, unless_crowded, if_as_stated}
use Rattle.transition_lines.specs.Choices.{transitions_game}
use Rattle.transition_lines.proofs.Ends.{end_alike, missing_alike}

pub choices_alike : (ts us : List Transition) (s n : ℕ)
    → ((k : ℕ) → k < n → transitions_of ts s k ≡ transitions_of us s k) → choices_said ts s n ≡ choices_said us s n
choices_alike ts us s zero same = refl
choices_alike ts us s (suc k) same =
    ap₂ (λ r vs. then_push r (choice_at s k (choice_said (map part_of vs))))
    (choices_alike ts us s k (λ j h. same j (omega (arith, h)))) (same k (omega arith))

pub state_alike : (ts us : List Transition) (s : ℕ) → ((k : ℕ) → transitions_of ts s k ≡ transitions_of us s k)
    → state_said ts s ≡ state_said us s
state_alike ts us s same =
    ap (λ n. cond (n == 0) (Ok (self_loop s ∷ [])) (choices_said ts s n)) (end_alike ts us s same)
    ∙ ap (λ r. cond (choice_end us s == 0) (Ok (self_loop s ∷ [])) r)
    (choices_alike ts us s (choice_end us s) (λ k h. same k))

-- the lists have the same transitions of the first n states
abbrev pub SameFirst : List Transition → List Transition → ℕ → Type 0
SameFirst ts us n = (s k : ℕ) → s < n → transitions_of ts s k ≡ transitions_of us s k

pub states_alike : (ts us : List Transition) (n : ℕ) → SameFirst ts us n → states_said ts n ≡ states_said us n
states_alike ts us zero same = refl
states_alike ts us (suc s) same = ap₂ (λ r d. then_push r d)
    (states_alike ts us s (λ i k h. same i k (omega (arith, h)))) (state_alike ts us s (λ k. same s k (omega arith)))

pub gap_alike : (ts us : List Transition) (n : ℕ) → SameFirst ts us n → first_gap ts n ≡ first_gap us n
gap_alike ts us zero same = refl
gap_alike ts us (suc s) same =
    let here : (k : ℕ) → transitions_of ts s k ≡ transitions_of us s k = λ k. same s k (omega arith) in
    ap₂ (λ o p. option_or o (option_map (of_state s) p)) (gap_alike ts us s (λ i k h. same i k (omega (arith, h))))
    (ap (λ m. least_missing ts s m) (end_alike ts us s here) ∙ missing_alike ts us s (choice_end us s) here)

pub crowded_alike : (ts us : List Transition) (n : ℕ) → SameFirst ts us n → first_crowded ts n ≡ first_crowded us n
crowded_alike ts us zero same = refl
crowded_alike ts us (suc s) same =
    ap₂ (λ o m. option_or o (if_crowded s m)) (crowded_alike ts us s (λ i k h. same i k (omega (arith, h))))
    (end_alike ts us s (λ k. same s k (omega arith)))

pub sum_alike : (f g : ℕ → ℕ) (n : ℕ) → ((s : ℕ) → s < n → f s ≡ g s) → sum_of_first f n ≡ sum_of_first g n
sum_alike f g zero same = refl
sum_alike f g (suc n) same =
    ap₂ (λ a b. a + b) (sum_alike f g n (λ s h. same s (omega (arith, h)))) (same n (omega arith))

pub game_alike : (ts us : List Transition) (n : ℕ) (stated : Option ℕ)
    → ((s k : ℕ) → transitions_of ts s k ≡ transitions_of us s k)
    → transitions_game ts n stated ≡ transitions_game us n stated
game_alike ts us n stated same =
    ap₂
    (λ g c. unless_gap g (unless_crowded c (if_as_stated stated (sum_of_first (choice_end ts) n) (states_said ts n))))
    (gap_alike ts us n (λ s k h. same s k)) (crowded_alike ts us n (λ s k h. same s k))
    ∙ ap₂
    (λ read game. unless_gap (first_gap us n) (unless_crowded (first_crowded us n) (if_as_stated stated read game)))
    (sum_alike (choice_end ts) (choice_end us) n (λ s h. end_alike ts us s (same s)))
    (states_alike ts us n (λ s k h. same s k))
