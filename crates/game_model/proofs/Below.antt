-- How many choices and edges the states below a state have: where those of the state begin.
use Rattle.std.proofs.Common.{◌≡◌, ℕ, zero, suc, ◌+◌, ◌-◌, ◌<◌, ◌≤◌, List, length, take, sum_by, arith, ◌∙◌, ap}
use Rattle.std.specs.Prelude.{slice_index}
use Rattle.std.proofs.lemmas.List.Sums.{sum_by-cons}
use Rattle.game_model.specs.Game.{Distribution, choices_below, edges_below}
use Rattle.game_model.specs.Span.{span}
use Rattle.game_model.specs.Flat.{edge_at, distribution_at, choices_at, game_at, last_of, IsLaidOut}
use Rattle.game_model.proofs.Span.{length-span, take-span}

-- where each part ends the next begins
telescope : {X : Type 0} (size : X → ℕ) (g : ℕ → X) (f : ℕ → ℕ) (a k : ℕ)
    → ((c : ℕ) → a ≤ c → c < a + k → size (g c) + f c ≡ f (c + 1)) → sum_by size (span g a k) + f a ≡ f (a + k)
telescope size g f a zero each =
    let at : f a ≡ f (a + 0) = ap f (let same : a ≡ a + 0 = omega arith in same) in
    omega (arith, at)
telescope size g f a (suc k) each =
    let rest : sum_by size (span g (a + 1) k) + f (a + 1) ≡ f (a + 1 + k) =
    telescope size g f (a + 1) k (λ c l m. each c (omega arith) (omega arith)) in
    let at : f (a + 1 + k) ≡ f (a + suc k) = ap f (let same : a + 1 + k ≡ a + suc k = omega arith in same) in
    let first : size (g a) + f a ≡ f (a + 1) = each a (omega arith) (omega arith) in
    let split : sum_by size (span g a (suc k)) ≡ size (g a) + sum_by size (span g (a + 1) k) =
    sum_by-cons size (g a) (span g (a + 1) k) in
    omega (arith, rest, at, first, split)

abbrev count_edges : List Distribution → ℕ
count_edges choices = sum_by (λ (m : Distribution). length m.edges) choices

module _ (fc fe totals to low high : List ℕ) (h : IsLaidOut fc fe totals to low) where
  edges-at : (c : ℕ) → c + 1 < length fe
      → length (distribution_at fe totals to low high c).edges + slice_index fe c ≡ slice_index fe (c + 1)
  edges-at c l =
      let size : length (distribution_at fe totals to low high c).edges ≡ slice_index fe (c + 1) - slice_index fe c =
      length-span (edge_at to low high) (slice_index fe c) (slice_index fe (c + 1) - slice_index fe c) in
      omega (arith, size, h.choices.ends c l)

  edges-of : (s : ℕ) → s + 1 < length fc
      → count_edges (choices_at fc fe totals to low high s) + slice_index fe (slice_index fc s)
      ≡ slice_index fe (slice_index fc (s + 1))
  edges-of s l =
      let rise : slice_index fc s ≤ slice_index fc (s + 1) = h.states.ends s l in
      let last : slice_index fc (s + 1) ≤ last_of fc = h.states.last (s + 1) l in
      let end : slice_index fc s + (slice_index fc (s + 1) - slice_index fc s) ≡ slice_index fc (s + 1) = omega arith in
      telescope (λ (m : Distribution). length m.edges) (distribution_at fe totals to low high) (slice_index fe)
      (slice_index fc s) (slice_index fc (s + 1) - slice_index fc s)
      (λ c from upto. edges-at c (omega (arith, h.state_within)))
      ∙ ap (slice_index fe) end

  pub edges_below-at : (s : ℕ) → s < length fc
      → edges_below (game_at fc fe totals to low high) s ≡ slice_index fe (slice_index fc s)
  edges_below-at s l =
      let front : take s (game_at fc fe totals to low high) ≡ span (choices_at fc fe totals to low high) 0 s =
      take-span (choices_at fc fe totals to low high) 0 s (length fc - 1) (omega arith) in
      let all : sum_by count_edges (span (choices_at fc fe totals to low high) 0 s) + slice_index fe (slice_index fc 0)
      ≡ slice_index fe (slice_index fc (0 + s)) =
      telescope count_edges (choices_at fc fe totals to low high) (λ n. slice_index fe (slice_index fc n)) 0 s
      (λ c from upto. edges-of c (omega arith)) in
      let none : slice_index fe (slice_index fc 0) ≡ 0 = ap (slice_index fe) h.states.begins ∙ h.choices.begins in
      let here : slice_index fe (slice_index fc (0 + s)) ≡ slice_index fe (slice_index fc s) =
      ap (λ n. slice_index fe (slice_index fc n)) (let same : 0 + s ≡ s = omega arith in same) in
      let total : sum_by count_edges (span (choices_at fc fe totals to low high) 0 s)
      ≡ slice_index fe (slice_index fc s) = omega (arith, all, none, here) in
      ap (sum_by count_edges) front ∙ total

  choices-at : (s : ℕ) → s + 1 < length fc
      → length (choices_at fc fe totals to low high s) + slice_index fc s ≡ slice_index fc (s + 1)
  choices-at s l =
      let size : length (choices_at fc fe totals to low high s) ≡ slice_index fc (s + 1) - slice_index fc s =
      length-span (distribution_at fe totals to low high) (slice_index fc s)
      (slice_index fc (s + 1) - slice_index fc s) in
      omega (arith, size, h.states.ends s l)

  pub choices_below-at : (s : ℕ) → s < length fc → choices_below (game_at fc fe totals to low high) s ≡ slice_index fc s
  choices_below-at s l =
      let front : take s (game_at fc fe totals to low high) ≡ span (choices_at fc fe totals to low high) 0 s =
      take-span (choices_at fc fe totals to low high) 0 s (length fc - 1) (omega arith) in
      let all : sum_by length (span (choices_at fc fe totals to low high) 0 s) + slice_index fc 0
      ≡ slice_index fc (0 + s) =
      telescope length (choices_at fc fe totals to low high) (slice_index fc) 0 s
      (λ c from upto. choices-at c (omega arith)) in
      let here : slice_index fc (0 + s) ≡ slice_index fc s =
      ap (slice_index fc) (let same : 0 + s ≡ s = omega arith in same) in
      let total : sum_by length (span (choices_at fc fe totals to low high) 0 s) ≡ slice_index fc s =
      omega (arith, all, h.states.begins, here) in
      ap (sum_by length) front ∙ total
