-- A state ends, and a draft becomes a game.
use Rattle.std.proofs.Common.{◌≡◌, ℕ, suc, ◌+◌, ◌-◌, ◌<◌, ◌≤◌, List, [], ◌∷◌, ◌++◌, length, arith, sym, ◌∙◌, ap, subst}
use Rattle.std.specs.Prelude.{All, slice_index}
use Rattle.std.proofs.lemmas.List.{get_or_push, length_push}
use Rattle.game_model.specs.Limits.{most_states, most_choices}
use Rattle.game_model.specs.Game.{Distribution, IsDistribution, IsGame, no_distribution}
use Rattle.game_model.specs.Span.{span}
use Rattle.game_model.specs.Flat.{distribution_at, choices_at, game_at, under_way_at, last_of, AreFlatLists}
use Rattle.game_model.specs.Draft.{with_state}
use Rattle.game_model.proofs.Span.{span-more, span-same}
use Rattle.game_model.proofs.Same.{last-push, push-below}
use Rattle.game_model.proofs.Push.{draft_at}
use Rattle.game_model.proofs.Facts.{choice-inside, choice-is}

module _ (fc fe totals to low high fc' : List ℕ) (h : AreFlatLists fc fe totals to low high)
    (is : fc' ≡ fc ++ (length fe - 1) ∷ []) where
  length-fc : length fc' ≡ length fc + 1
  length-fc = ap length is ∙ length_push fc (length fe - 1)

  last-fc : last_of fc' ≡ length fe - 1
  last-fc = ap last_of is ∙ last-push fc (length fe - 1)

  same-fc : (s : ℕ) → s < length fc → slice_index fc' s ≡ slice_index fc s
  same-fc s l = ap (λ xs. slice_index xs s) is ∙ push-below fc (length fe - 1) s l

  choices-same : (s : ℕ) → s + 1 < length fc
      → choices_at fc' fe totals to low high s ≡ choices_at fc fe totals to low high s
  choices-same s l =
      ap (λ n. span (distribution_at fe totals to low high) n (slice_index fc' (s + 1) - n)) (same-fc s (omega arith))
      ∙ ap (λ n. span (distribution_at fe totals to low high) (slice_index fc s) (n - slice_index fc s))
      (same-fc (s + 1) l)

  choices-last : choices_at fc' fe totals to low high (length fc - 1) ≡ under_way_at fc fe totals to low high
  choices-last =
      let some : 0 < length fc = h.laid_out.states.some in
      let end_is : slice_index fc' (length fc - 1 + 1) ≡ length fe - 1 =
      ap (λ xs. slice_index xs (length fc - 1 + 1)) is
      ∙ get_or_push fc (length fe - 1) 0 (length fc - 1 + 1) (omega arith) in
      ap (λ n. span (distribution_at fe totals to low high) n (slice_index fc' (length fc - 1 + 1) - n))
      (same-fc (length fc - 1) (omega arith))
      ∙ ap (λ n. span (distribution_at fe totals to low high) (last_of fc) (n - last_of fc)) end_is

  under_way-none : under_way_at fc' fe totals to low high ≡ []
  under_way-none =
      let none : length fe - 1 - last_of fc' ≡ 0 = omega (arith, last-fc) in
      ap (span (distribution_at fe totals to low high) (last_of fc')) none

  pub ended-draft : draft_at fc' fe totals to low high ≡ with_state (draft_at fc fe totals to low high)
  ended-draft =
      let some : 0 < length fc = h.laid_out.states.some in
      let count_is : length fc' - 1 ≡ suc (length fc - 1) = omega (arith, length-fc) in
      let place_is : 0 + (length fc - 1) ≡ length fc - 1 = omega arith in
      ap (λ u. record { done = game_at fc' fe totals to low high; under_way = u }) under_way-none
      ∙ ap (λ g. record { done = g; under_way = [] })
      (ap (span (choices_at fc' fe totals to low high) 0) count_is
      ∙ span-more (choices_at fc' fe totals to low high) 0 (length fc - 1)
      ∙ ap (λ n. span (choices_at fc' fe totals to low high) 0 (length fc - 1)
      ++ choices_at fc' fe totals to low high n ∷ []) place_is
      ∙ ap (λ cs. span (choices_at fc' fe totals to low high) 0 (length fc - 1) ++ cs ∷ []) choices-last
      ∙ ap (λ g. g ++ under_way_at fc fe totals to low high ∷ []) (span-same (choices_at fc' fe totals to low high)
      (choices_at fc fe totals to low high) 0 (length fc - 1) (λ s from upto. choices-same s (omega arith))))

-- a draft whose states are few, and have choices within, is a game
pub finished : (fc fe totals to low high : List ℕ) (game : List (List Distribution))
    → AreFlatLists fc fe totals to low high → game_at fc fe totals to low high ≡ game → 0 < length game
    → length game ≤ most_states → All (λ c. 0 < length c) game → All (λ c. length c ≤ most_choices) game
    → All (λ c. All (λ m. All (λ e. e.to < length game) m.edges) c) game → IsGame (game_at fc fe totals to low high)
finished fc fe totals to low high game h is some few chosen bounded inside = subst IsGame (sym is) (record {
  some = some;
  few = few;
  chosen = λ s l. chosen s [] l;
  bounded = λ s l. bounded s [] l;
  distribution = λ s c l k. subst IsDistribution (choice-is fc fe totals to low high game is s c l k)
      (h.distributions _ (choice-inside fc fe totals to low high game is h.laid_out s c l k));
  inside = λ s c l k. inside s [] l c no_distribution k;
})
