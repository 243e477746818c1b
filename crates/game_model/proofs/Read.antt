-- What a game in flat lists has at a state, a choice and an edge.
use Rattle.std.proofs.Common.{◌≡◌, ℕ, ◌+◌, ◌-◌, ◌<◌, List, [], length, get_or, arith, ◌∙◌, ap}
use Rattle.std.specs.Prelude.{slice_index}
use Rattle.game_model.specs.Game.{choices_of, choice_of, no_distribution}
use Rattle.std.proofs.lemmas.List.{get_or_read}
use Rattle.game_model.specs.Flat.{distribution_at, choices_at, game_at}
use Rattle.game_model.proofs.Span.{length-span, get_or-span}

pub length-game : (fc fe totals to low high : List ℕ) → length (game_at fc fe totals to low high) ≡ length fc - 1
length-game fc fe totals to low high = length-span (choices_at fc fe totals to low high) 0 (length fc - 1)

pub choices_of-game : (fc fe totals to low high : List ℕ) (s : ℕ) → s < length (game_at fc fe totals to low high)
    → choices_of (game_at fc fe totals to low high) s ≡ choices_at fc fe totals to low high s
choices_of-game fc fe totals to low high s l =
    let at : 0 + s ≡ s = omega arith in
    get_or-span (choices_at fc fe totals to low high) 0 (length fc - 1) s []
    (omega (arith, length-game fc fe totals to low high)) ∙ ap (choices_at fc fe totals to low high) at

pub length-choices : (fc fe totals to low high : List ℕ) (s : ℕ) → s < length (game_at fc fe totals to low high)
    → length (choices_of (game_at fc fe totals to low high) s) ≡ slice_index fc (s + 1) - slice_index fc s
length-choices fc fe totals to low high s l =
    ap length (choices_of-game fc fe totals to low high s l)
    ∙ length-span (distribution_at fe totals to low high) (slice_index fc s) (slice_index fc (s + 1) - slice_index fc s)

pub choice_of-game : (fc fe totals to low high : List ℕ) (s c : ℕ)
    → s < length (game_at fc fe totals to low high) → c < length (choices_of (game_at fc fe totals to low high) s)
    → choice_of (game_at fc fe totals to low high) s c ≡ distribution_at fe totals to low high (slice_index fc s + c)
choice_of-game fc fe totals to low high s c l k =
    ap (λ ms. get_or ms c no_distribution) (choices_of-game fc fe totals to low high s l)
    ∙ get_or-span (distribution_at fe totals to low high) (slice_index fc s)
    (slice_index fc (s + 1) - slice_index fc s) c no_distribution
    (omega (arith, length-choices fc fe totals to low high s l))

-- what `xs[i]` gives
pub read : (xs : List ℕ) (i x : ℕ) → i < length xs → x ≡ get_or xs i x → x ≡ slice_index xs i
read xs i x l is = get_or_read xs i x l is 0
