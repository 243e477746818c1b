-- The successors of a run of states: where they lie in the lists, and that they are states.
use Rattle.std.proofs.Common.{◌≡◌, ℕ, ◌+◌, ◌-◌, ◌<◌, ◌≤◌, List, [], ◌∷◌, length, map, take, drop, get_or, arith, zero}
use Rattle.std.proofs.Common.{suc, subst, ◌∙◌, ap}
use Rattle.std.specs.Prelude.{slice_index, flat_map, All}
use Rattle.std.proofs.lemmas.List.Elements.{All-nil, All-append, All-map, All-get_or, All-from_get_or, All-take}
use Rattle.std.proofs.lemmas.List.Elements.{All-drop}
use Rattle.std.proofs.lemmas.List.{get_or_default}
use Rattle.game_model.specs.declared.game.Edge.{Edge}
use Rattle.game_model.specs.Game.{Distribution, IsGame, choices_of, no_distribution, all_successors, successors_between}
use Rattle.game_model.specs.Span.{span}
use Rattle.game_model.specs.Flat.{edge_at, distribution_at, choices_at, game_at, last_of, IsLaidOut}
use Rattle.game_model.proofs.Span.{map-span, part-span, flat_map-span}
use Rattle.game_model.proofs.Read.{read}

module _ (fc fe totals to low : List ℕ) (h : IsLaidOut fc fe totals to low) where
  -- where the edges of a state begin, as it is read
  pub begin-inside : (s first : ℕ) → s < length fc → first ≡ get_or fc s first → first < length fe
  begin-inside s first l is = omega (arith, read fc s first l is, h.states.last s l, h.state_within)

  pub begin-is : (s first begin : ℕ) → s < length fc → first ≡ get_or fc s first → begin ≡ get_or fe first begin
      → begin ≡ slice_index fe (slice_index fc s)
  begin-is s first begin l is_first is =
      read fe first begin (begin-inside s first l is_first) is ∙ ap (slice_index fe) (read fc s first l is_first)

  -- where they end
  pub between-within : (b : ℕ) → b < length fc → slice_index fe (slice_index fc b) ≤ length to
  between-within b l =
      let first : slice_index fc b ≤ last_of fc = h.states.last b l in
      let last : slice_index fe (slice_index fc b) ≤ last_of fe =
      h.choices.last (slice_index fc b) (omega (arith, h.state_within)) in
      omega (arith, last, h.to_within)

module _ (fc fe totals to low high : List ℕ) (h : IsLaidOut fc fe totals to low) where
  successors-of : (s : ℕ) → s + 1 < length fc
      → (all_successors (choices_at fc fe totals to low high s) ≡ span (slice_index to)
      (slice_index fe (slice_index fc s)) (slice_index fe (slice_index fc (s + 1)) - slice_index fe (slice_index fc s)))
      × (slice_index fe (slice_index fc s) ≤ slice_index fe (slice_index fc (s + 1)))
  successors-of s l =
      let rise : slice_index fc s ≤ slice_index fc (s + 1) = h.states.ends s l in
      let last : slice_index fc (s + 1) ≤ last_of fc = h.states.last (s + 1) l in
      let end : slice_index fc s + (slice_index fc (s + 1) - slice_index fc s) ≡ slice_index fc (s + 1) = omega arith in
      let all : (all_successors (choices_at fc fe totals to low high s)
      ≡ span (slice_index to) (slice_index fe (slice_index fc s)) (slice_index fe
      (slice_index fc s + (slice_index fc (s + 1) - slice_index fc s)) - slice_index fe (slice_index fc s)))
      × (slice_index fe (slice_index fc s)
      ≤ slice_index fe (slice_index fc s + (slice_index fc (s + 1) - slice_index fc s))) =
      flat_map-span (λ (m : Distribution). map (λ (e : Edge). e.to) m.edges) (distribution_at fe totals to low high)
      (slice_index to) (slice_index fe) (slice_index fc s) (slice_index fc (s + 1) - slice_index fc s)
      (λ c from upto. (
        map-span (λ (e : Edge). e.to) (edge_at to low high) (slice_index fe c)
            (slice_index fe (c + 1) - slice_index fe c),
        h.choices.ends c (omega (arith, h.state_within)),
      )) in
      let here : slice_index fe (slice_index fc s + (slice_index fc (s + 1) - slice_index fc s))
      ≡ slice_index fe (slice_index fc (s + 1)) = ap (slice_index fe) end in (
        all.0 ∙ ap (λ n.
            span (slice_index to) (slice_index fe (slice_index fc s)) (n - slice_index fe (slice_index fc s))) here,
        omega (arith, all.1, here),
      )

  pub successors_between-at : (a b : ℕ) → a ≤ b → b < length fc
      → (successors_between (game_at fc fe totals to low high) a b ≡ span (slice_index to)
      (slice_index fe (slice_index fc a)) (slice_index fe (slice_index fc b) - slice_index fe (slice_index fc a)))
      × (slice_index fe (slice_index fc a) ≤ slice_index fe (slice_index fc b))
  successors_between-at a b order l =
      let part : take (b - a) (drop a (game_at fc fe totals to low high))
      ≡ span (choices_at fc fe totals to low high) a (b - a) =
      part-span (choices_at fc fe totals to low high) a b (length fc - 1) (omega arith) in
      let all : (flat_map all_successors (span (choices_at fc fe totals to low high) a (b - a))
      ≡ span (slice_index to) (slice_index fe (slice_index fc a))
      (slice_index fe (slice_index fc (a + (b - a))) - slice_index fe (slice_index fc a)))
      × (slice_index fe (slice_index fc a) ≤ slice_index fe (slice_index fc (a + (b - a)))) =
      flat_map-span all_successors (choices_at fc fe totals to low high) (slice_index to)
      (λ s. slice_index fe (slice_index fc s)) a (b - a) (λ s from upto. successors-of s (omega arith)) in
      let here : slice_index fe (slice_index fc (a + (b - a))) ≡ slice_index fe (slice_index fc b) =
      ap (λ n. slice_index fe (slice_index fc n)) (let same : a + (b - a) ≡ b = omega arith in same) in (
        ap (flat_map all_successors) part ∙ all.0 ∙ ap (λ n.
            span (slice_index to) (slice_index fe (slice_index fc a)) (n - slice_index fe (slice_index fc a))) here,
        omega (arith, all.1, here),
      )

-- each element of each part
All-flat_map : {X Y : Type 0} (P : Y → Type 0) (h : X → List Y) (xs : List X)
    → ((i : ℕ) (d : X) → i < length xs → All P (h (get_or xs i d))) → All P (flat_map h xs)
All-flat_map P h [] each = All-nil P
All-flat_map P h (x ∷ xs) each = All-append P (h x) (flat_map h xs) (each zero x (omega arith))
    (All-flat_map P h xs (λ i d l. each (suc i) d (omega arith)))

successors-inside : (n : ℕ) (choices : List Distribution)
    → ((c : ℕ) → c < length choices → All (λ (e : Edge). e.to < n) (get_or choices c no_distribution).edges)
    → All (λ t. t < n) (all_successors choices)
successors-inside n choices each =
    All-flat_map (λ t. t < n) (λ (m : Distribution). map (λ (e : Edge). e.to) m.edges) choices
    (λ c d l. All-map (λ t. t < n) (λ (e : Edge). e.to) (get_or choices c d).edges
    (subst (λ (m : Distribution). All (λ (e : Edge). e.to < n) m.edges)
    (get_or_default choices c no_distribution d l) (each c l)))

-- all successors are states
pub successors_between-states : (game : List (List Distribution)) (a b : ℕ) → IsGame game
    → All (λ t. t < length game) (successors_between game a b)
successors_between-states game a b h =
    let P : List Distribution → Type 0 = λ choices. All (λ t. t < length game) (all_successors choices) in
    let each : All P game = All-from_get_or P game []
    (λ s inside. successors-inside (length game) (choices_of game s) (λ c k. h.inside s c inside k)) in
    All-flat_map (λ t. t < length game) all_successors (take (b - a) (drop a game))
    (λ i d l.
    All-get_or P (take (b - a) (drop a game)) i d l (All-take P (b - a) (drop a game) (All-drop P a game each)))
