-- What the invariant of a row gives at a choice and an edge of the value.
use Rattle.std.proofs.Common.{◌≡◌, ℕ, ◌+◌, ◌-◌, ◌*◌, ◌^◌, ◌<◌, ◌≤◌, List, length, map, sum_by, get_or, arith, take}
use Rattle.std.proofs.Common.{drop, sym, ◌∙◌, ap, subst}
use Rattle.std.specs.Prelude.{slice_index}
use Rattle.std.proofs.lemmas.List.{same_lists, length-map, get_or-map, get_or-take, get_or-drop, length-take-le}
use Rattle.std.proofs.lemmas.List.{length-drop}
use Rattle.std.proofs.lemmas.List.Sums.{get_or-le-sum_by}
use Rattle.std.proofs.lemmas.Bool.Decides.{nat_tests}
use Rattle.game_model.specs.declared.game.Edge.{Edge}
use Rattle.game_model.specs.Game.{Distribution, IsDistribution, IsGame, choices_of, choice_among, no_distribution}
use Rattle.game_model.specs.Game.{no_edge}
use Rattle.game_model.specs.Span.{span}
use Rattle.game_model.specs.Flat.{edge_at, total_with, choice_with, distribution_at, game_at, last_of, IsLaidOut}
use Rattle.game_model.specs.Row.{row_at, IsRow}
use Rattle.game_model.proofs.Span.{map-span, length-span, get_or-span, span-moved}
use Rattle.game_model.proofs.Read.{choices_of-game, read}
use Rattle.game_model.proofs.Facts.{state-inside, choices-count, choice-is}

low-word : (w low high : ℕ) → low + 2 ^ 64 * high ≡ w → w < 2 ^ 64 → low ≡ w
low-word w low high is small = omega arith

-- the low words are the weights where their sum fits 64 bits
low-same : (low high to : List ℕ) (a k : ℕ) (edges : List Edge) → span (edge_at to low high) a k ≡ edges
    → sum_by (λ e. e.weight) edges < 2 ^ 64 → span (slice_index low) a k ≡ map (λ e. e.weight) edges
low-same low high to a k edges is small =
    let count : k ≡ length edges = sym (length-span (edge_at to low high) a k) ∙ ap length is in
    same_lists _ _ (length-span (slice_index low) a k ∙ count ∙ sym (length-map edges (λ (e : Edge). e.weight)))
    (λ i d l.
    let inside : i < k = omega (arith, length-span (slice_index low) a k) in
    let at : edge_at to low high (a + i) ≡ get_or edges i no_edge =
    sym (get_or-span (edge_at to low high) a k i no_edge inside) ∙ ap (λ es. get_or es i no_edge) is in
    let most : (get_or edges i no_edge).weight ≤ sum_by (λ e. e.weight) edges =
    get_or-le-sum_by (λ (e : Edge). e.weight) edges i no_edge (omega arith) in
    get_or-span (slice_index low) a k i d inside
    ∙ low-word (get_or edges i no_edge).weight (slice_index low (a + i)) (slice_index high (a + i))
    (ap (λ (e : Edge). e.weight) at) (omega arith)
    ∙ sym (get_or-map (λ (e : Edge). e.weight) edges i no_edge d (omega arith)))

-- a number that is kept for a total is the total, where it is not 0
with-kept : (kept : ℕ) (edges : List Edge) → 0 < kept → total_with kept edges ≡ kept
unfolding total_with
with-kept kept edges some = grind (arith, nat_tests)

module _ (bounds totals to low high : List ℕ) (row : List Distribution)
    (is : row_at bounds totals to low high ≡ row) where
  pub row-count : length bounds - 1 ≡ length row
  row-count = sym (length-span (distribution_at bounds totals to low high) 0 (length bounds - 1)) ∙ ap length is

  pub bound-inside : (c : ℕ) → c < length row → c + 1 < length bounds
  bound-inside c l = omega (arith, row-count)

  pub choice-in : (c : ℕ) → c < length row → distribution_at bounds totals to low high c ≡ choice_among row c
  choice-in c l =
      let at : 0 + c ≡ c = omega arith in
      sym (ap (λ ms. get_or ms c no_distribution) (sym is) ∙ get_or-span (distribution_at bounds totals to low high) 0
      (length bounds - 1) c no_distribution (omega (arith, row-count))
      ∙ ap (distribution_at bounds totals to low high) at)

  pub total-in : (c : ℕ) → c < length row → 0 < slice_index totals c → slice_index totals c ≡ (choice_among row c).total
  total-in c l some =
      sym (with-kept (slice_index totals c)
      (span (edge_at to low high) (slice_index bounds c) (slice_index bounds (c + 1) - slice_index bounds c)) some)
      ∙ ap (λ (m : Distribution). m.total) (choice-in c l)

  pub edges-count : (c : ℕ) → c < length row
      → slice_index bounds (c + 1) - slice_index bounds c ≡ length (choice_among row c).edges
  edges-count c l =
      sym (length-span (edge_at to low high) (slice_index bounds c) (slice_index bounds (c + 1) - slice_index bounds c))
      ∙ ap (λ (m : Distribution). length m.edges) (choice-in c l)

  pub edge-in : (c p : ℕ) → c < length row → p < length (choice_among row c).edges
      → edge_at to low high (slice_index bounds c + p) ≡ get_or (choice_among row c).edges p no_edge
  edge-in c p l m =
      sym (get_or-span (edge_at to low high) (slice_index bounds c)
      (slice_index bounds (c + 1) - slice_index bounds c) p no_edge (omega (arith, edges-count c l)))
      ∙ ap (λ (d : Distribution). get_or d.edges p no_edge) (choice-in c l)

  -- the successors and the weights of a choice, as they lie in the lists
  pub targets-are : (c : ℕ) → c < length row
      → span (slice_index to) (slice_index bounds c) (slice_index bounds (c + 1) - slice_index bounds c)
      ≡ map (λ e. e.to) (choice_among row c).edges
  targets-are c l =
      sym (map-span (λ (e : Edge). e.to) (edge_at to low high) (slice_index bounds c)
      (slice_index bounds (c + 1) - slice_index bounds c))
      ∙ ap (λ (m : Distribution). map (λ (e : Edge). e.to) m.edges) (choice-in c l)

  module _ (h : IsRow bounds totals to low high) where
    pub fine : (c : ℕ) → c < length row → IsDistribution (choice_among row c)
    fine c l = subst IsDistribution (choice-in c l) (h.distributions c (bound-inside c l))

    -- the weights of a choice whose total fits 64 bits
    pub low-are : (c : ℕ) → c < length row → (choice_among row c).total < 2 ^ 64
        → span (slice_index low) (slice_index bounds c) (slice_index bounds (c + 1) - slice_index bounds c)
        ≡ map (λ e. e.weight) (choice_among row c).edges
    low-are c l small =
        low-same low high to (slice_index bounds c) (slice_index bounds (c + 1) - slice_index bounds c)
        (choice_among row c).edges
        (ap (λ (m : Distribution). m.edges) (choice-in c l)) (subst (λ n. n < 2 ^ 64) (sym (fine c l).sums) small)

-- a part of a list, as it is read
part-length : (xs : List ℕ) (a k : ℕ) → a + k ≤ length xs → length (take k (drop a xs)) ≡ k
part-length xs a k l = length-take-le k (drop a xs) (omega (arith, length-drop a xs))

part-read : (xs : List ℕ) (a k i : ℕ) → i < k → slice_index (take k (drop a xs)) i ≡ slice_index xs (a + i)
part-read xs a k i l = get_or-take k (drop a xs) i 0 l ∙ get_or-drop a xs i 0

-- the row of a state: what lies between the beginning of its choices and that of the next state's
module _ (fc fe totals to low high : List ℕ) (game : List (List Distribution))
    (is : game_at fc fe totals to low high ≡ game) (h : IsLaidOut fc fe totals to low)
    (s first last : ℕ) (inside : s < length game) (read_first : first ≡ get_or fc s first)
    (read_last : last ≡ get_or fc (s + 1) last) where
  is_first : first ≡ slice_index fc s
  is_first = read fc s first
      (let next : s + 1 < length fc = state-inside fc fe totals to low high game is s inside in omega arith) read_first

  is_last : last ≡ slice_index fc (s + 1)
  is_last = read fc (s + 1) last (state-inside fc fe totals to low high game is s inside) read_last

  pub in-order : first ≤ last
  in-order = omega (arith, is_first, is_last, h.states.ends s (state-inside fc fe totals to low high game is s inside))

  pub in-lists : (last + 1 ≤ length fe) × (last ≤ length totals)
  in-lists =
      let most : slice_index fc (s + 1) ≤ last_of fc =
      h.states.last (s + 1) (state-inside fc fe totals to low high game is s inside) in
      (omega (arith, is_last, most, h.state_within), omega (arith, is_last, most, h.state_within, h.enough))

  bounds-count : length (take (last + 1 - first) (drop first fe)) ≡ last + 1 - first
  bounds-count = part-length fe first (last + 1 - first) (omega (arith, in-order, in-lists.0))

  bound-at : (c : ℕ) → c < last + 1 - first
      → slice_index (take (last + 1 - first) (drop first fe)) c ≡ slice_index fe (first + c)
  bound-at c l = part-read fe first (last + 1 - first) c l

  same-choice : (c : ℕ) → c < last - first → distribution_at (take (last + 1 - first) (drop first fe))
      (take (last - first) (drop first totals)) to low high c ≡ distribution_at fe totals to low high (first + c)
  same-choice c l =
      let next : first + (c + 1) ≡ first + c + 1 = omega arith in
      let begin = bound-at c (omega arith) in
      let end : slice_index (take (last + 1 - first) (drop first fe)) (c + 1) ≡ slice_index fe (first + c + 1) =
      bound-at (c + 1) (omega arith) ∙ ap (slice_index fe) next in
      ap (λ n. choice_with n (span (edge_at to low high) (slice_index (take (last + 1 - first) (drop first fe)) c)
      (slice_index (take (last + 1 - first) (drop first fe)) (c + 1)
      - slice_index (take (last + 1 - first) (drop first fe)) c))) (part-read totals first (last - first) c l)
      ∙ ap (λ n. choice_with (slice_index totals (first + c))
      (span (edge_at to low high) n (slice_index (take (last + 1 - first) (drop first fe)) (c + 1) - n))) begin
      ∙ ap (λ n. choice_with (slice_index totals (first + c))
      (span (edge_at to low high) (slice_index fe (first + c)) (n - slice_index fe (first + c)))) end

  choices-span : span (distribution_at fe totals to low high) first (last - first) ≡ choices_of game s
  choices-span =
      ap (λ n. span (distribution_at fe totals to low high) n (last - n)) is_first
      ∙ ap (λ n. span (distribution_at fe totals to low high) (slice_index fc s) (n - slice_index fc s)) is_last
      ∙ subst (λ (g : List (List Distribution)). s < length g → span (distribution_at fe totals to low high)
      (slice_index fc s) (slice_index fc (s + 1) - slice_index fc s) ≡ choices_of g s) is
      (λ k. sym (choices_of-game fc fe totals to low high s k)) inside

  pub row-is : row_at (take (last + 1 - first) (drop first fe)) (take (last - first) (drop first totals)) to low high
      ≡ choices_of game s
  row-is =
      let count : length (take (last + 1 - first) (drop first fe)) - 1 ≡ last - first = omega (arith, bounds-count) in
      ap (span (distribution_at (take (last + 1 - first) (drop first fe))
      (take (last - first) (drop first totals)) to low high) 0) count
      ∙ span-moved (distribution_at (take (last + 1 - first) (drop first fe)) (take (last - first) (drop first totals))
      to low high) (distribution_at fe totals to low high) 0 first (last - first)
      (λ c l. let at : 0 + c ≡ c = omega arith in ap (distribution_at (take (last + 1 - first) (drop first fe))
      (take (last - first) (drop first totals)) to low high) at ∙ same-choice c l)
      ∙ choices-span

  pub row-kept : IsGame (game_at fc fe totals to low high)
      → IsRow (take (last + 1 - first) (drop first fe)) (take (last - first) (drop first totals)) to low high
  row-kept fine_flat =
      let fine : IsGame game = subst IsGame is fine_flat in
      let count : last - first ≡ length (choices_of game s) =
      omega (arith, is_first, is_last, choices-count fc fe totals to low high game is s inside) in
      record {
        some = omega (arith, bounds-count, count, fine.chosen s inside);
        few = omega (arith, bounds-count, count, fine.bounded s inside);
        enough =
            omega (arith, bounds-count, part-length totals first (last - first) (omega (arith, in-order, in-lists.1)));
        ends = λ c l.
            let next : first + (c + 1) ≡ first + c + 1 = omega arith in
            omega (
              arith,
              bound-at c (omega (arith, bounds-count)),
              bound-at (c + 1) (omega (arith, bounds-count)),
              ap (slice_index fe) next,
              h.choices.ends (first + c) (omega (arith, bounds-count, in-lists.0)),
            );
        to_within = λ c l. omega (
          arith,
          bound-at c (omega (arith, bounds-count)),
          h.choices.last (first + c) (omega (arith, bounds-count, in-lists.0)),
          h.to_within,
        );
        low_within = λ c l. omega (
          arith,
          bound-at c (omega (arith, bounds-count)),
          h.choices.last (first + c) (omega (arith, bounds-count, in-lists.0)),
          h.low_within,
        );
        distributions = λ c l.
            let here : c < last - first = omega (arith, bounds-count) in
            subst IsDistribution
            (sym (same-choice c here ∙ ap (λ n. distribution_at fe totals to low high (n + c)) is_first
            ∙ choice-is fc fe totals to low high game is s c inside (omega (arith, count))))
            (fine.distribution s c inside (omega (arith, count)));
      }
