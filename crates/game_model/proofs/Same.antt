-- Lists that agree where they are in use hold the same game.
use Rattle.std.proofs.Common.{◌≡◌, ℕ, ◌+◌, ◌-◌, ◌*◌, ◌/◌, ◌%◌, ◌^◌, ◌<◌, ◌≤◌, List, [], ◌∷◌, ◌++◌, length, get_or, map}
use Rattle.std.proofs.Common.{arith, ◌∙◌, ap, subst, inl, inr}
use Rattle.std.specs.Prelude.{slice_index}
use Rattle.std.proofs.lemmas.Bool.{cases_lt}
use Rattle.std.proofs.lemmas.List.{get_or_append_left, get_or_push, length_push, get_or-append-add, get_or-map}
use Rattle.std.proofs.lemmas.List.{get_or_default, same_lists}
use Rattle.game_model.specs.declared.game.Edge.{Edge}
use Rattle.game_model.specs.Game.{no_edge}
use Rattle.game_model.specs.Span.{span}
use Rattle.game_model.specs.Growing.{HasHighWords}
use Rattle.game_model.specs.Flat.{edge_at, choice_with, distribution_at, choices_at, game_at, under_way_at, last_of}
use Rattle.game_model.specs.Flat.{IsAscending, IsLaidOut}
use Rattle.game_model.proofs.Span.{length-span, get_or-span, span-same}

-- an entry more
pub last-push : (xs : List ℕ) (y : ℕ) → last_of (xs ++ y ∷ []) ≡ y
last-push xs y =
    let at : length xs ≡ length (xs ++ y ∷ []) - 1 = omega (arith, length_push xs y) in
    get_or_push xs y 0 _ at

pub push-below : (xs : List ℕ) (y i : ℕ) → i < length xs → slice_index (xs ++ y ∷ []) i ≡ slice_index xs i
push-below xs y i l = get_or_append_left xs (y ∷ []) 0 i l

pub ascending-push : (xs : List ℕ) (y : ℕ) → IsAscending xs → last_of xs ≤ y → IsAscending (xs ++ y ∷ [])
ascending-push xs y h le = record {
  some = omega (arith, length_push xs y);
  begins = push-below xs y 0 h.some ∙ h.begins;
  ends = λ i l. elim (cases_lt (i + 1) (length xs)) [
    | inl inside ↦ omega (arith, push-below xs y i (omega arith), push-below xs y (i + 1) inside, h.ends i inside)
    | inr outside ↦
        let here : length xs ≡ i + 1 = omega (arith, length_push xs y) in
        let at : i ≡ length xs - 1 = omega arith in
        omega (arith, push-below xs y i (omega arith), ap (slice_index xs) at, get_or_push xs y 0 (i + 1) here)
  ];
  last = λ i l. elim (cases_lt i (length xs)) [
    | inl inside ↦ omega (arith, last-push xs y, push-below xs y i inside, h.last i inside)
    | inr outside ↦
        let here : length xs ≡ i = omega (arith, length_push xs y) in
        omega (arith, last-push xs y, get_or_push xs y 0 i here)
  ];
}

module _ (fc fe totals to low high fe' totals' to' low' high' : List ℕ) (h : IsLaidOut fc fe totals to low)
    (same_fe : (c : ℕ) → c < length fe → slice_index fe' c ≡ slice_index fe c)
    (same_totals : (c : ℕ) → c + 1 < length fe → slice_index totals' c ≡ slice_index totals c)
    (same_to : (i : ℕ) → i < last_of fe → slice_index to' i ≡ slice_index to i)
    (same_low : (i : ℕ) → i < last_of fe → slice_index low' i ≡ slice_index low i)
    (same_high : (i : ℕ) → i < last_of fe → slice_index high' i ≡ slice_index high i) where
  edge-same : (i : ℕ) → i < last_of fe → edge_at to' low' high' i ≡ edge_at to low high i
  edge-same i l =
      ap (λ n. record { to = n; weight = slice_index low' i + 2 ^ 64 * slice_index high' i }) (same_to i l)
      ∙ ap (λ n. record { to = slice_index to i; weight = n + 2 ^ 64 * slice_index high' i }) (same_low i l)
      ∙ ap (λ n. record { to = slice_index to i; weight = slice_index low i + 2 ^ 64 * n }) (same_high i l)

  pub distribution-same : (c : ℕ) → c + 1 < length fe
      → distribution_at fe' totals' to' low' high' c ≡ distribution_at fe totals to low high c
  distribution-same c l =
      let last : slice_index fe (c + 1) ≤ last_of fe = h.choices.last (c + 1) l in
      ap (λ n.
      choice_with n (span (edge_at to' low' high') (slice_index fe' c) (slice_index fe' (c + 1) - slice_index fe' c)))
      (same_totals c l)
      ∙ ap (λ n. choice_with (slice_index totals c) (span (edge_at to' low' high') n (slice_index fe' (c + 1) - n)))
      (same_fe c (omega arith))
      ∙ ap (λ n. choice_with (slice_index totals c)
      (span (edge_at to' low' high') (slice_index fe c) (n - slice_index fe c))) (same_fe (c + 1) l)
      ∙ ap (choice_with (slice_index totals c))
      (span-same (edge_at to' low' high') (edge_at to low high) (slice_index fe c)
      (slice_index fe (c + 1) - slice_index fe c) (λ i from upto. edge-same i (omega arith)))

  pub game-same : game_at fc fe' totals' to' low' high' ≡ game_at fc fe totals to low high
  game-same = span-same (choices_at fc fe' totals' to' low' high')
      (choices_at fc fe totals to low high) 0 (length fc - 1)
      (λ s from upto.
      let last : slice_index fc (s + 1) ≤ last_of fc = h.states.last (s + 1) (omega arith) in
      let within : last_of fc < length fe = h.state_within in
      span-same (distribution_at fe' totals' to' low' high') (distribution_at fe totals to low high) (slice_index fc s)
      (slice_index fc (s + 1) - slice_index fc s) (λ c from upto. distribution-same c (omega arith)))

  pub under_way-same : span (distribution_at fe' totals' to' low' high') (last_of fc) (length fe - 1 - last_of fc)
      ≡ under_way_at fc fe totals to low high
  under_way-same = span-same (distribution_at fe' totals' to' low' high') (distribution_at fe totals to low high)
      (last_of fc) (length fe - 1 - last_of fc) (λ c from upto. distribution-same c (omega arith))

-- the two words of a weight
words : (w low high : ℕ) → low ≡ w % 2 ^ 64 → high ≡ w / 2 ^ 64 → low + 2 ^ 64 * high ≡ w
words w low high l h = omega arith

-- edges that were added behind others
pub edges-added : (to low high : List ℕ) (a : ℕ) (edges : List Edge)
    → length to ≡ a → length low ≡ a → HasHighWords a edges high
    → span (edge_at (to ++ map (λ e. e.to) edges) (low ++ map (λ e. e.weight % 2 ^ 64) edges) high) a (length edges)
    ≡ edges
edges-added to low high a edges same same' is_high =
    same_lists _ _ (length-span _ a (length edges)) (λ i d l.
    let inside : i < length edges = omega (
      arith,
      length-span (edge_at (to ++ map (λ (e : Edge). e.to) edges)
          (low ++ map (λ (e : Edge). e.weight % 2 ^ 64) edges) high) a (length edges),
    ) in
    let at_to : slice_index (to ++ map (λ (e : Edge). e.to) edges) (a + i) ≡ (get_or edges i d).to =
    subst (λ n. slice_index (to ++ map (λ (e : Edge). e.to) edges) (n + i) ≡ (get_or edges i d).to) same
    (get_or-append-add to (map (λ (e : Edge). e.to) edges) i 0 ∙ get_or-map (λ (e : Edge). e.to) edges i d 0 inside) in
    let at_low : slice_index (low ++ map (λ (e : Edge). e.weight % 2 ^ 64) edges) (a + i)
    ≡ (get_or edges i d).weight % 2 ^ 64 =
    subst (λ n. slice_index (low ++ map (λ (e : Edge). e.weight % 2 ^ 64) edges) (n + i)
    ≡ (get_or edges i d).weight % 2 ^ 64) same'
    (get_or-append-add low (map (λ (e : Edge). e.weight % 2 ^ 64) edges) i 0
    ∙ get_or-map (λ (e : Edge). e.weight % 2 ^ 64) edges i d 0 inside) in
    let at_high : slice_index high (a + i) ≡ (get_or edges i d).weight / 2 ^ 64 =
    is_high i inside ∙ ap (λ (e : Edge). e.weight / 2 ^ 64) (get_or_default edges i no_edge d inside) in
    get_or-span _ a (length edges) i d inside
    ∙ ap (λ n. record {
      to = n;
      weight = slice_index (low ++ map (λ (e : Edge). e.weight % 2 ^ 64) edges) (a + i)
          + 2 ^ 64 * slice_index high (a + i);
    }) at_to
    ∙ ap (λ n. record { to = (get_or edges i d).to; weight = n }) (words (get_or edges i d).weight _ _ at_low at_high))
