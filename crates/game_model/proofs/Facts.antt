-- What the invariant gives at a state, a choice and an edge of the value.
use Rattle.std.proofs.Common.{◌≡◌, ℕ, ◌+◌, ◌-◌, ◌<◌, ◌≤◌, List, length, arith, sym, ◌∙◌, ap, subst}
use Rattle.std.specs.Prelude.{slice_index}
use Rattle.game_model.specs.Game.{Distribution, choices_of, choice_of}
use Rattle.game_model.specs.Flat.{distribution_at, game_at, last_of, IsLaidOut}
use Rattle.game_model.proofs.Read.{length-game, length-choices, choice_of-game}

module _ (fc fe totals to low high : List ℕ) (game : List (List Distribution))
    (is : game_at fc fe totals to low high ≡ game) where
  pub states-count : length fc - 1 ≡ length game
  states-count = sym (length-game fc fe totals to low high) ∙ ap length is

  pub state-inside : (s : ℕ) → s < length game → s + 1 < length fc
  state-inside s l = omega (arith, states-count)

  pub choices-count : (s : ℕ) → s < length game → slice_index fc (s + 1) - slice_index fc s ≡ length (choices_of game s)
  choices-count s l = subst (λ (g : List (List Distribution)).
      s < length g → slice_index fc (s + 1) - slice_index fc s ≡ length (choices_of g s)) is
      (λ k. sym (length-choices fc fe totals to low high s k)) l

  pub choice-is : (s c : ℕ) → s < length game → c < length (choices_of game s)
      → distribution_at fe totals to low high (slice_index fc s + c) ≡ choice_of game s c
  choice-is s c l k = subst (λ (g : List (List Distribution)). s < length g → c < length (choices_of g s)
      → distribution_at fe totals to low high (slice_index fc s + c) ≡ choice_of g s c) is
      (λ l k. sym (choice_of-game fc fe totals to low high s c l k)) l k

  module _ (h : IsLaidOut fc fe totals to low) where
    pub choice-inside : (s c : ℕ) → s < length game → c < length (choices_of game s)
        → slice_index fc s + c + 1 < length fe
    choice-inside s c l k =
        let last : slice_index fc (s + 1) ≤ last_of fc = h.states.last (s + 1) (state-inside s l) in
        omega (arith, choices-count s l, last, h.state_within)
